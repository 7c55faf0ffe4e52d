-- An area has one log at most, and no fault where it has one.
use Rattle.std.proofs.Common.{◌≡◌, ◌≢◌, ◌⊎◌, ℕ, ◌+◌, ◌≤◌, ◌<◌, List, [], ◌∷◌, ◌++◌, length, take, drop, refl, sym, ap, ◌∙◌, append_assoc, append-nil, arith, inl, inr, length-append}
use Rattle.std.proofs.lemmas.List.{take_at, drop_at, take-append-le}
use Rattle.std.specs.List.{flat_map, AllByRecursion}
use Rattle.journal_text.specs.declared.entry.Entry.{Entry}
use Rattle.journal_text.specs.Numbers.{number_text, number_of}
use Rattle.journal_text.specs.Text.{Fits, entry_text, entries_text}
use Rattle.journal_text.proofs.Fields.{length-number_text, number_of-text}
use Rattle.journal_text.proofs.Entries.{one_spelling}
use Rattle.journal_store.specs.declared.fault.Spot.{Spot}
use Rattle.journal_store.specs.declared.fault.Spot.TheVariants.{Place, Summary, Entry as EntrySpot}
use Rattle.journal_store.specs.Area.{first_header, empty_journal, IsBatch, body_text, batch_text, prefix_text, IsRead, IsLog}
use Rattle.journal_store.specs.Fault.{AgreesTo, DiffersAt, summary_length, IsSummaryCut, HasNoLength, IsBody, HasNoEntry, HasNoGate, HasFault}
use Rattle.journal_store.proofs.Bodies.{entry_some}

-- ---- lists

pub same_prefix : (x y a b : List ℕ) → length x ≡ length y → x ++ a ≡ y ++ b → (x ≡ y) × (a ≡ b)
same_prefix x y a b len is = (
  sym (take_at x a (length x) refl) ∙ ap (λ (xs : List ℕ). take (length x) xs) is ∙ take_at y b (length x) (sym len),
  sym (drop_at x a (length x) refl) ∙ ap (λ (xs : List ℕ). drop (length x) xs) is ∙ drop_at y b (length x) (sym len),
)

pub same_tail : (a b : ℕ) (x y : List ℕ) → a ∷ x ≡ b ∷ y → (a ≡ b) × (x ≡ y)
same_tail a b x y is = (cc, cc)

-- ---- entries

pub entries_unique : (es fs : List Entry) → AllByRecursion Fits es → AllByRecursion Fits fs → entries_text es ≡ entries_text fs → es ≡ fs
entries_unique [] [] fit fit' is = refl
entries_unique [] (f ∷ fs) fit fit' is = absurd (omega (arith, ap length is, length-append (entry_text f) (entries_text fs), entry_some f))
entries_unique (e ∷ es) [] fit fit' is = absurd (omega (arith, ap length is, length-append (entry_text e) (entries_text es), entry_some e))
entries_unique (e ∷ es) (f ∷ fs) fit fit' is =
    let one = one_spelling e f (entries_text es) (entries_text fs) fit.0 fit'.0 is in
    ap (λ (x : Entry). x ∷ es) one.0 ∙ ap (λ (xs : List Entry). f ∷ xs) (entries_unique es fs fit.1 fit'.1 one.1)

-- whole entries have no entry without a reading among them
entries_whole : (es before : List Entry) (bad : List ℕ) → AllByRecursion Fits es → AllByRecursion Fits before → entries_text es ≡ entries_text before ++ bad → bad ≢ []
    → ((e : Entry) (rest : List ℕ) → Fits e → bad ≡ entry_text e ++ rest → ⊥) → ⊥
entries_whole [] [] bad fit fit' is more none = more (sym is)
entries_whole (e ∷ es) [] bad fit fit' is more none = none e (entries_text es) fit.0 (sym is)
entries_whole [] (f ∷ fs) bad fit fit' is more none =
    omega (arith, ap length is, length-append (entries_text (f ∷ fs)) bad, length-append (entry_text f) (entries_text fs), entry_some f)
entries_whole (e ∷ es) (f ∷ fs) bad fit fit' is more none =
    let one = one_spelling e f (entries_text es) (entries_text fs ++ bad) fit.0 fit'.0 (is ∙ append_assoc (entry_text f) (entries_text fs) bad) in
    entries_whole es fs bad fit.1 fit'.1 one.1 more none

-- ---- batches

-- a length that was written is read again
pub length_is : (n : ℕ) (rest : List ℕ) → n ≤ 4096 → number_of 4 (number_text 4 n ++ rest) ≡ n
length_is n rest le = number_of-text 4 n rest (omega (arith, le))

-- one body is at the start of some bytes
pub body_unique : (es : List Entry) (body rest behind : List ℕ) → IsBatch es → 1 ≤ length body → length body ≤ 4096
    → body_text es ++ rest ≡ number_text 4 (length body) ++ body ++ behind → (entries_text es ≡ body) × (rest ≡ behind)
unfolding body_text
body_unique es body rest behind batch some most is =
    let text = entries_text es in
    let left : number_text 4 (length text) ++ (text ++ rest) ≡ number_text 4 (length body) ++ (body ++ behind)
    = sym (append_assoc (number_text 4 (length text)) text rest) ∙ is ∙ append_assoc (number_text 4 (length body)) body behind in
    let size : length text ≡ length body
    = sym (length_is (length text) (text ++ rest) batch.most) ∙ ap (λ (xs : List ℕ). number_of 4 xs) left ∙ length_is (length body) (body ++ behind) most in
    let numbers = same_prefix (number_text 4 (length text)) (number_text 4 (length body)) (text ++ rest) (body ++ behind) (omega (arith, length-number_text 4 (length text), length-number_text 4 (length body))) left in
    same_prefix text body rest behind size numbers.1

abbrev pub text_of : List (List Entry) → List ℕ
text_of batches = flat_map batch_text batches

-- the batches that a closed gate ends begin with those that were read
record Begins (b c : List (List Entry)) (gate : ℕ) (behind rest : List ℕ) : Type 0 where
  more : List (List Entry)
  whole : AllByRecursion IsBatch more
  parts : b ≡ c ++ more
  left : rest ≡ text_of more ++ gate ∷ behind

pub spelled : (es : List Entry) (xs : List ℕ) → body_text es ++ xs ≡ number_text 4 (length (entries_text es)) ++ entries_text es ++ xs
unfolding body_text
spelled es xs = refl

prefix : (b c : List (List Entry)) (gate : ℕ) (behind rest : List ℕ) → AllByRecursion IsBatch b → AllByRecursion IsBatch c → gate ≢ 1
    → text_of b ++ gate ∷ behind ≡ text_of c ++ rest → Begins b c gate behind rest
prefix b [] gate behind rest all all' shut is = record { more = b; whole = all; parts = refl; left = sym is }
prefix [] (d ∷ c) gate behind rest all all' shut is = absurd (shut (same_tail gate 1 behind _ is).0)
prefix (a ∷ b) (d ∷ c) gate behind rest all all' shut is =
    let A = text_of b ++ gate ∷ behind in
    let B = text_of c ++ rest in
    let grouped : batch_text a ++ A ≡ batch_text d ++ B = sym (append_assoc (batch_text a) (text_of b) (gate ∷ behind)) ∙ is ∙ append_assoc (batch_text d) (text_of c) rest in
    let bodies : body_text a ++ A ≡ body_text d ++ B = (same_tail 1 1 (body_text a ++ A) (body_text d ++ B) grouped).1 in
    let one = body_unique a (entries_text d) A B all.0 all'.0.some all'.0.most (bodies ∙ spelled d B) in
    let next = prefix b c gate behind rest all.1 all'.1 shut one.1 in
    let same : a ≡ d = entries_unique a d all.0.fit all'.0.fit one.0 in
    record {
      more = next.more;
      whole = next.whole;
      parts = ap (λ (x : List Entry). x ∷ b) same ∙ ap (λ (xs : List (List Entry)). d ∷ xs) next.parts;
      left = next.left;
    }

module _ (header : List ℕ) where
  -- what was read of an area with a log is a prefix of its batches
  read_of : (end place : ℕ) (log other : List Entry) (area rest : List ℕ) (is : IsLog header end log area) (read : IsRead header place other area rest)
      → Begins is.read.batches read.batches is.gate is.behind rest
  unfolding prefix_text
  read_of end place log other area rest is read =
      let whole : header ++ (text_of is.read.batches ++ is.gate ∷ is.behind) ≡ header ++ (text_of read.batches ++ rest)
      = sym (append_assoc header (text_of is.read.batches) (is.gate ∷ is.behind)) ∙ sym is.read.text ∙ read.text ∙ append_assoc header (text_of read.batches) rest in
      prefix is.read.batches read.batches is.gate is.behind rest is.read.whole read.whole is.closed (same_prefix header header _ _ refl whole).1

  pub one_log : (end place : ℕ) (log other : List Entry) (area : List ℕ) → IsLog header end log area → IsLog header place other area → (end ≡ place) × (log ≡ other)
  one_log end place log other area a b =
      let same = by (read_of end place log other area (b.gate ∷ b.behind) a b.read) in
      (a.read.ends ∙ ap (λ (xs : List (List Entry)). length (prefix_text header xs)) same ∙ sym b.read.ends, a.read.holds ∙ ap (λ (xs : List (List Entry)). flat_map (λ x. x) xs) same ∙ sym b.read.holds)
    where
      none : (more : List (List Entry)) (gate : ℕ) (behind : List ℕ) → b.gate ∷ b.behind ≡ text_of more ++ gate ∷ behind → more ≡ []
      none [] gate behind is = refl
      none (d ∷ more) gate behind is = absurd (b.closed (same_tail b.gate 1 b.behind _ is).0)

      by : Begins a.read.batches b.read.batches a.gate a.behind (b.gate ∷ b.behind) → a.read.batches ≡ b.read.batches
      by begins = begins.parts ∙ ap (λ (xs : List (List Entry)). b.read.batches ++ xs) (none begins.more a.gate a.behind begins.left) ∙ append-nil b.read.batches

-- ---- faults

-- what comes after the header
pub record HasHeader (area : List ℕ) : Type 0 where
  pub behind : List ℕ
  pub text : area ≡ first_header ++ behind

header_of : (end : ℕ) (log : List Entry) (area : List ℕ) → IsLog first_header end log area → HasHeader area
unfolding prefix_text
header_of end log area is = record { behind = text_of is.read.batches ++ is.gate ∷ is.behind; text = is.read.text ∙ append_assoc first_header (text_of is.read.batches) (is.gate ∷ is.behind) }

pub long : (area : List ℕ) → HasHeader area → 42 ≤ length area
long area h = omega (arith, ap length h.text, length-append first_header h.behind)

pub agrees : (n : ℕ) (area : List ℕ) → HasHeader area → n ≤ 42 → AgreesTo n area
agrees n area h le = ap (λ (xs : List ℕ). take n xs) h.text ∙ take-append-le n first_header h.behind le

pub summary_is : (area : List ℕ) → HasHeader area → summary_length area ≡ 22
unfolding number_of
summary_is area h = ap (λ (xs : List ℕ). number_of 4 (drop 16 xs)) h.text

pub no_difference : (place : ℕ) (area : List ℕ) → HasHeader area → place < 42 → DiffersAt place area → ⊥
no_difference place area h lt differs = differs.differs (agrees (place + 1) area h (omega arith))

pub no_cut : (area : List ℕ) → HasHeader area → IsSummaryCut area → ⊥
no_cut area h (same, inl short) = omega (arith, long area h)
no_cut area h (same, inr short) = omega (arith, long area h, summary_is area h)

-- after an open gate there is a whole batch
pub record HasBatch (bytes : List ℕ) : Type 0 where
  pub batch : List Entry
  pub whole : IsBatch batch
  pub rest : List ℕ
  pub text : bytes ≡ body_text batch ++ rest

pub no_length_fault : (bytes : List ℕ) → HasBatch bytes → HasNoLength bytes → ⊥
unfolding body_text
no_length_fault bytes has fault =
    let text = entries_text has.batch in
    let size : number_of 4 bytes ≡ length text
    = ap (λ (xs : List ℕ). number_of 4 xs) (has.text ∙ append_assoc (number_text 4 (length text)) text has.rest) ∙ length_is (length text) (text ++ has.rest) has.whole.most in
    let len : length bytes ≡ 4 + length text + length has.rest
    = omega (arith, ap length has.text, length-append (number_text 4 (length text) ++ text) has.rest, length-append (number_text 4 (length text)) text, length-number_text 4 (length text)) in
    by fault.none size len
  where
    by : (length bytes < 4) ⊎ (number_of 4 bytes ≡ 0) ⊎ (4096 < number_of 4 bytes) ⊎ (length bytes < 4 + number_of 4 bytes) → number_of 4 bytes ≡ length (entries_text has.batch)
        → length bytes ≡ 4 + length (entries_text has.batch) + length has.rest → ⊥
    by (inl short) size len = omega arith
    by (inr (inl none)) size len = omega (arith, has.whole.some)
    by (inr (inr (inl large))) size len = omega (arith, has.whole.most)
    by (inr (inr (inr cut))) size len = omega arith

pub no_entry_fault : (bytes body behind : List ℕ) (count : ℕ) → HasBatch bytes → IsBody body behind bytes → HasNoEntry count body → ⊥
no_entry_fault bytes body behind count has is_body fault =
    let one = body_unique has.batch body has.rest behind has.whole is_body.some is_body.most (sym has.text ∙ is_body.text) in
    entries_whole has.batch fault.before fault.bad has.whole.fit fault.fit (one.0 ∙ fault.text) fault.more fault.none

module _ (end : ℕ) (log : List Entry) (area : List ℕ) (is : IsLog first_header end log area) where
  no_gate : (place : ℕ) → HasNoGate place area → ⊥
  no_gate place missing =
      let begins = read_of first_header end place log missing.0 area [] is missing.1 in
      omega (arith, ap length begins.left, length-append (text_of begins.more) (is.gate ∷ is.behind))

  batch_of : (more : List (List Entry)) (bytes : List ℕ) → AllByRecursion IsBatch more → 1 ∷ bytes ≡ text_of more ++ is.gate ∷ is.behind → HasBatch bytes
  batch_of [] bytes all left = absurd (is.closed (sym (same_tail 1 is.gate bytes is.behind left).0))
  batch_of (d ∷ more) bytes all left = record {
    batch = d;
    whole = all.0;
    rest = text_of more ++ is.gate ∷ is.behind;
    text = (same_tail 1 1 bytes _ (left ∙ append_assoc (batch_text d) (text_of more) (is.gate ∷ is.behind))).1;
  }

  pub no_fault : (spot : Spot) → HasFault area spot → ⊥
  no_fault (Place place) (inl (lt, differs)) = no_difference place area (header_of end log area is) (omega arith) differs
  no_fault (Place place) (inr (inl (at, cut))) = no_cut area (header_of end log area is) cut
  no_fault (Place place) (inr (inr (inl missing))) = no_gate place missing
  no_fault (Place place) (inr (inr (inr f))) =
      let begins = read_of first_header end f.gate log f.log area (1 ∷ f.bytes) is f.read in
      no_length_fault f.bytes (batch_of begins.more f.bytes begins.whole begins.left) f.fault
  no_fault (Summary place) (inl (at, f)) = f.other (summary_is area (header_of end log area is))
  no_fault (Summary place) (inr f) = no_difference place area (header_of end log area is) f.inside f.first
  no_fault (EntrySpot index) f =
      let begins = read_of first_header end f.gate log f.log area (1 ∷ f.bytes) is f.read in
      no_entry_fault f.bytes f.body f.behind f.count (batch_of begins.more f.bytes begins.whole begins.left) f.is_body f.fault

pub empty_journal_has_no_entry : IsLog first_header 42 [] empty_journal.left
unfolding prefix_text
empty_journal_has_no_entry = record { gate = 0; behind = []; read = record { batches = []; whole = tt; holds = refl; text = refl; ends = refl }; closed = omega arith }
