-- An area has one fault at most.
use Rattle.std.proofs.Common.{◌≡◌, ◌⊎◌, ℕ, ◌+◌, ◌-◌, ◌<◌, ◌^◌, List, [], ◌∷◌, ◌++◌, length, min, refl, sym, ap, subst, ◌∙◌, append_assoc, append-nil, arith, inl, inr, length-append}
use Rattle.std.proofs.lemmas.Bool.{cases_lt}
use Rattle.std.specs.List.{flat_map, AllByRecursion}
use Rattle.journal_text.specs.declared.entry.Entry.{Entry}
use Rattle.journal_text.specs.Numbers.{number_text, number_of}
use Rattle.journal_text.specs.Text.{Fits, entry_text, entries_text}
use Rattle.journal_text.proofs.Fields.{length-number_text}
use Rattle.journal_text.proofs.Entries.{one_spelling}
use Rattle.journal_store.specs.declared.fault.Spot.{Spot}
use Rattle.journal_store.specs.declared.fault.Spot.TheVariants.{Place, Summary, Entry as EntrySpot}
use Rattle.journal_store.specs.Area.{first_header, IsBatch, body_text, batch_text, prefix_text, IsRead}
use Rattle.journal_store.specs.Fault.{AgreesTo, DiffersAt, IsSummaryCut, HasOtherSummary, HasOtherByte, HasNoLength, HasNoLengthAt, IsBody, HasNoEntry, HasNoEntryAt, HasNoGate, HasFault}
use Rattle.journal_store.proofs.Headers.{agrees_less}
use Rattle.journal_store.proofs.Unique.{same_prefix, same_tail, entries_unique, body_unique, text_of, spelled, HasHeader, no_difference, no_cut, summary_is, HasBatch, no_length_fault, no_entry_fault, length_is}

-- ---- the header

one_difference : (p q : ℕ) (area : List ℕ) → DiffersAt p area → DiffersAt q area → p ≡ q
one_difference p q area a b = elim (cases_lt p q) [
  | inl less ↦ absurd (a.differs (agrees_less (p + 1) q area (omega (arith, less)) b.agrees))
  | inr from ↦ elim (cases_lt q p) [
    | inl less ↦ absurd (b.differs (agrees_less (q + 1) p area (omega (arith, less)) a.agrees))
    | inr same ↦ omega (arith, from, same)
  ]
]

-- a difference is where the header agrees no further
not_behind : (p n : ℕ) (area : List ℕ) → p < n → DiffersAt p area → AgreesTo n area → ⊥
not_behind p n area lt a agrees = a.differs (agrees_less (p + 1) n area (omega (arith, lt)) agrees)

not_cut : (area : List ℕ) → IsSummaryCut area → HasOtherSummary area → ⊥
not_cut area (same, inl short) other = omega (arith, short, other.whole)
not_cut area (same, inr short) other = omega (arith, short, other.inside)

not_cut_either : (place : ℕ) (area : List ℕ) → IsSummaryCut area → HasOtherByte place area → ⊥
not_cut_either place area (same, inl short) other = omega (arith, short, other.whole)
not_cut_either place area (same, inr short) other = omega (arith, short, other.whole, other.same_length)

-- ---- batches

-- one of two lists of batches begins with the other
record Splits (b c : List (List Entry)) (x y : List ℕ) : Type 0 where
  more : List (List Entry)
  whole : AllByRecursion IsBatch more
  parts : b ≡ c ++ more
  left : y ≡ text_of more ++ x

deeper : (a d : List Entry) (b c : List (List Entry)) (x y : List ℕ) → a ≡ d → Splits b c x y → Splits (a ∷ b) (d ∷ c) x y
deeper a d b c x y same is = record {
  more = is.more;
  whole = is.whole;
  parts = ap (λ (e : List Entry). e ∷ b) same ∙ ap (λ (l : List (List Entry)). d ∷ l) is.parts;
  left = is.left;
}

splits : (b c : List (List Entry)) (x y : List ℕ) → AllByRecursion IsBatch b → AllByRecursion IsBatch c → text_of b ++ x ≡ text_of c ++ y → Splits b c x y ⊎ Splits c b y x
splits b [] x y all all' is = inl (record { more = b; whole = all; parts = refl; left = sym is })
splits [] (d ∷ c) x y all all' is = inr (record { more = d ∷ c; whole = all'; parts = refl; left = is })
splits (a ∷ b) (d ∷ c) x y all all' is =
    let A = text_of b ++ x in
    let B = text_of c ++ y in
    let grouped : batch_text a ++ A ≡ batch_text d ++ B = sym (append_assoc (batch_text a) (text_of b) x) ∙ is ∙ append_assoc (batch_text d) (text_of c) y in
    let bodies : body_text a ++ A ≡ body_text d ++ B = (same_tail 1 1 (body_text a ++ A) (body_text d ++ B) grouped).1 in
    let one = body_unique a (entries_text d) A B all.0 all'.0.some all'.0.most (bodies ∙ spelled d B) in
    let same : a ≡ d = entries_unique a d all.0.fit all'.0.fit one.0 in
    elim (splits b c x y all.1 all'.1 one.1) [
      | inl more ↦ inl (deeper a d b c x y same more)
      | inr more ↦ inr (deeper d a c b y x (sym same) more)
    ]

-- no batch is at the start of these bytes
Stuck : List ℕ → Type 0
Stuck bytes = (d : List Entry) (rest : List ℕ) → IsBatch d → bytes ≡ batch_text d ++ rest → ⊥

none_more : (more : List (List Entry)) (x y : List ℕ) → AllByRecursion IsBatch more → Stuck y → y ≡ text_of more ++ x → more ≡ []
unfolding Stuck
none_more [] x y all stuck is = refl
none_more (d ∷ more) x y all stuck is = absurd (stuck d (text_of more ++ x) all.0 (is ∙ append_assoc (batch_text d) (text_of more) x))

-- two readings that stop where there is no batch
record Agree (place other : ℕ) (log log' : List Entry) (x y : List ℕ) : Type 0 where
  places : place ≡ other
  logs : log ≡ log'
  rests : x ≡ y

agree_by : (place other : ℕ) (log log' : List Entry) (area x y : List ℕ) (a : IsRead first_header place log area x) (b : IsRead first_header other log' area y) → Stuck y → Splits a.batches b.batches x y → Agree place other log log' x y
agree_by place other log log' area x y a b stuck is =
    let none = none_more is.more x y is.whole stuck is.left in
    let same : a.batches ≡ b.batches = is.parts ∙ ap (λ (l : List (List Entry)). b.batches ++ l) none ∙ append-nil b.batches in
    record {
      places = a.ends ∙ ap (λ (l : List (List Entry)). length (prefix_text first_header l)) same ∙ sym b.ends;
      logs = a.holds ∙ ap (λ (l : List (List Entry)). flat_map (λ e. e) l) same ∙ sym b.holds;
      rests = sym (is.left ∙ ap (λ (l : List (List Entry)). text_of l ++ x) none);
    }

turned : (place other : ℕ) (log log' : List Entry) (x y : List ℕ) → Agree place other log log' x y → Agree other place log' log y x
turned place other log log' x y is = record { places = sym is.places; logs = sym is.logs; rests = sym is.rests }

agree : (place other : ℕ) (log log' : List Entry) (area x y : List ℕ) → IsRead first_header place log area x → IsRead first_header other log' area y → Stuck x → Stuck y → Agree place other log log' x y
unfolding prefix_text
agree place other log log' area x y a b stuck stuck' =
    let whole : first_header ++ (text_of a.batches ++ x) ≡ first_header ++ (text_of b.batches ++ y)
    = sym (append_assoc first_header (text_of a.batches) x) ∙ sym a.text ∙ b.text ∙ append_assoc first_header (text_of b.batches) y in
    elim (splits a.batches b.batches x y a.whole b.whole (same_prefix first_header first_header _ _ refl whole).1) [
      | inl more ↦ agree_by place other log log' area x y a b stuck' more
      | inr more ↦ turned other place log' log y x (agree_by other place log' log area y x b a stuck more)
    ]

read_header : (place : ℕ) (log : List Entry) (area rest : List ℕ) → IsRead first_header place log area rest → HasHeader area
unfolding prefix_text
read_header place log area rest is = record { behind = text_of is.batches ++ rest; text = is.text ∙ append_assoc first_header (text_of is.batches) rest }

-- ---- where there is no batch

stuck_end : Stuck []
unfolding Stuck
stuck_end d rest batch is = omega (arith, ap length is, length-append (batch_text d) rest)

prefix_batch : (bytes : List ℕ) (d : List Entry) (rest : List ℕ) → IsBatch d → 1 ∷ bytes ≡ batch_text d ++ rest → HasBatch bytes
prefix_batch bytes d rest batch is = record { batch = d; whole = batch; rest = rest; text = (same_tail 1 1 bytes (body_text d ++ rest) is).1 }

stuck_length : (bytes : List ℕ) → HasNoLength bytes → Stuck (1 ∷ bytes)
unfolding Stuck
stuck_length bytes fault d rest batch is = no_length_fault bytes (prefix_batch bytes d rest batch is) fault

stuck_entry : (bytes body behind : List ℕ) (count : ℕ) → IsBody body behind bytes → HasNoEntry count body → Stuck (1 ∷ bytes)
unfolding Stuck
stuck_entry bytes body behind count is_body fault d rest batch is = no_entry_fault bytes body behind count (prefix_batch bytes d rest batch is) is_body fault

-- ---- bodies

size_of : (bytes body behind : List ℕ) → IsBody body behind bytes → number_of 4 bytes ≡ length body
size_of bytes body behind is = ap (λ (xs : List ℕ). number_of 4 xs) (is.text ∙ append_assoc (number_text 4 (length body)) body behind) ∙ length_is (length body) (body ++ behind) is.most

-- bytes that begin with a body have its length
has_length : (bytes body behind : List ℕ) → IsBody body behind bytes → HasNoLength bytes → ⊥
has_length bytes body behind is fault =
    by fault.none (size_of bytes body behind is)
    (omega (arith, ap length is.text, length-append (number_text 4 (length body) ++ body) behind, length-append (number_text 4 (length body)) body, length-number_text 4 (length body)))
  where
    by : (length bytes < 4) ⊎ (number_of 4 bytes ≡ 0) ⊎ (4096 < number_of 4 bytes) ⊎ (length bytes < 4 + number_of 4 bytes) → number_of 4 bytes ≡ length body
        → length bytes ≡ 4 + length body + length behind → ⊥
    by (inl short) size len = omega arith
    by (inr (inl none)) size len = omega (arith, is.some)
    by (inr (inr (inl large))) size len = omega (arith, is.most)
    by (inr (inr (inr cut))) size len = omega arith

one_body : (bytes body behind other after : List ℕ) → IsBody body behind bytes → IsBody other after bytes → body ≡ other
one_body bytes body behind other after a b =
    let size : length body ≡ length other = sym (size_of bytes body behind a) ∙ size_of bytes other after b in
    let whole : number_text 4 (length body) ++ (body ++ behind) ≡ number_text 4 (length other) ++ (other ++ after)
    = sym (append_assoc (number_text 4 (length body)) body behind) ∙ sym a.text ∙ b.text ∙ append_assoc (number_text 4 (length other)) other after in
    (same_prefix body other behind after size
    (same_prefix (number_text 4 (length body)) (number_text 4 (length other)) (body ++ behind) (other ++ after) (omega (arith, length-number_text 4 (length body), length-number_text 4 (length other))) whole).1).0

-- as many entries come before the first that has no reading
one_count : (es fs : List Entry) (bad bad' : List ℕ) → AllByRecursion Fits es → AllByRecursion Fits fs → ((e : Entry) (rest : List ℕ) → Fits e → bad ≡ entry_text e ++ rest → ⊥)
    → ((e : Entry) (rest : List ℕ) → Fits e → bad' ≡ entry_text e ++ rest → ⊥) → entries_text es ++ bad ≡ entries_text fs ++ bad' → length es ≡ length fs
one_count [] [] bad bad' fit fit' none none' is = refl
one_count [] (f ∷ fs) bad bad' fit fit' none none' is = absurd (none f (entries_text fs ++ bad') fit'.0 (is ∙ append_assoc (entry_text f) (entries_text fs) bad'))
one_count (e ∷ es) [] bad bad' fit fit' none none' is = absurd (none' e (entries_text es ++ bad) fit.0 (sym is ∙ append_assoc (entry_text e) (entries_text es) bad))
one_count (e ∷ es) (f ∷ fs) bad bad' fit fit' none none' is =
    let grouped = sym (append_assoc (entry_text e) (entries_text es) bad) ∙ is ∙ append_assoc (entry_text f) (entries_text fs) bad' in
    let one = one_spelling e f (entries_text es ++ bad) (entries_text fs ++ bad') fit.0 fit'.0 grouped in
    omega (arith, one_count es fs bad bad' fit.1 fit'.1 none none' one.1)

same_count : (m n : ℕ) (body : List ℕ) → HasNoEntry m body → HasNoEntry n body → m ≡ n
same_count m n body a b = a.counts ∙ one_count a.before b.before a.bad b.bad a.fit b.fit a.none b.none (sym a.text ∙ b.text) ∙ sym b.counts

-- ---- faults of the log

log_gate_gate : (p q : ℕ) (area : List ℕ) → HasNoGate p area → HasNoGate q area → p ≡ q
log_gate_gate p q area a b = (agree p q a.0 b.0 area [] [] a.1 b.1 stuck_end stuck_end).places

some_bytes : (bytes : List ℕ) → [] ≡ 1 ∷ bytes → ⊥
some_bytes bytes is = cc

log_gate_length : (p q : ℕ) (area : List ℕ) → HasNoGate p area → HasNoLengthAt q area → ⊥
log_gate_length p q area a b = some_bytes b.bytes (agree p b.gate a.0 b.log area [] (1 ∷ b.bytes) a.1 b.read stuck_end (stuck_length b.bytes b.fault)).rests

log_gate_entry : (p index : ℕ) (area : List ℕ) → HasNoGate p area → HasNoEntryAt index area → ⊥
log_gate_entry p index area a b =
    some_bytes b.bytes (agree p b.gate a.0 b.log area [] (1 ∷ b.bytes) a.1 b.read stuck_end (stuck_entry b.bytes b.body b.behind b.count b.is_body b.fault)).rests

log_length_length : (p q : ℕ) (area : List ℕ) → HasNoLengthAt p area → HasNoLengthAt q area → p ≡ q
log_length_length p q area a b =
    let same = agree a.gate b.gate a.log b.log area (1 ∷ a.bytes) (1 ∷ b.bytes) a.read b.read (stuck_length a.bytes a.fault) (stuck_length b.bytes b.fault) in
    omega (arith, a.next, b.next, same.places)

log_length_entry : (p index : ℕ) (area : List ℕ) → HasNoLengthAt p area → HasNoEntryAt index area → ⊥
log_length_entry p index area a b =
    let same = agree a.gate b.gate a.log b.log area (1 ∷ a.bytes) (1 ∷ b.bytes) a.read b.read (stuck_length a.bytes a.fault) (stuck_entry b.bytes b.body b.behind b.count b.is_body b.fault) in
    let bytes : a.bytes ≡ b.bytes = (same_tail 1 1 a.bytes b.bytes same.rests).1 in
    has_length b.bytes b.body b.behind b.is_body (subst HasNoLength bytes a.fault)

log_entry_entry : (i j : ℕ) (area : List ℕ) → HasNoEntryAt i area → HasNoEntryAt j area → i ≡ j
log_entry_entry i j area a b =
    let same = agree a.gate b.gate a.log b.log area (1 ∷ a.bytes) (1 ∷ b.bytes) a.read b.read (stuck_entry a.bytes a.body a.behind a.count a.is_body a.fault) (stuck_entry b.bytes b.body b.behind b.count b.is_body b.fault) in
    let bytes : a.bytes ≡ b.bytes = (same_tail 1 1 a.bytes b.bytes same.rests).1 in
    let body : a.body ≡ b.body = one_body b.bytes a.body a.behind b.body b.behind (subst (IsBody a.body a.behind) bytes a.is_body) b.is_body in
    let count : a.count ≡ b.count = same_count a.count b.count b.body (subst (HasNoEntry a.count) body a.fault) b.fault in
    a.told ∙ ap (λ (l : List Entry). min (length l + a.count) (2 ^ 32 - 1)) same.logs ∙ ap (λ (n : ℕ). min (length b.log + n) (2 ^ 32 - 1)) count ∙ sym b.told

-- ---- all faults

-- faults of the header, and those after a whole one
HasLater : List ℕ → Spot → Type 0
HasLater area (Place place) = HasNoGate place area ⊎ HasNoLengthAt place area
HasLater area (Summary place) = ⊥
HasLater area (EntrySpot index) = HasNoEntryAt index area

HasEarly : List ℕ → Spot → Type 0
HasEarly area (Place place) = ((place < 16) × DiffersAt place area) ⊎ ((place ≡ 16) × IsSummaryCut area)
HasEarly area (Summary place) = ((place ≡ 16) × HasOtherSummary area) ⊎ HasOtherByte place area
HasEarly area (EntrySpot index) = ⊥

early_or_later : (area : List ℕ) (spot : Spot) → HasFault area spot → HasEarly area spot ⊎ HasLater area spot
unfolding HasEarly HasLater
early_or_later area (Place place) (inl f) = inl (inl f)
early_or_later area (Place place) (inr (inl f)) = inl (inr f)
early_or_later area (Place place) (inr (inr f)) = inr f
early_or_later area (Summary place) f = inl f
early_or_later area (EntrySpot index) f = inr f

header_of_later : (area : List ℕ) (spot : Spot) → HasLater area spot → HasHeader area
unfolding HasLater
header_of_later area (Place place) (inl f) = read_header place f.0 area [] f.1
header_of_later area (Place place) (inr f) = read_header f.gate f.log area (1 ∷ f.bytes) f.read
header_of_later area (Summary place) f = absurd f
header_of_later area (EntrySpot index) f = read_header f.gate f.log area (1 ∷ f.bytes) f.read

not_early : (area : List ℕ) (spot : Spot) → HasHeader area → HasEarly area spot → ⊥
unfolding HasEarly
not_early area (Place place) h (inl f) = no_difference place area h (omega (arith, f.0)) f.1
not_early area (Place place) h (inr f) = no_cut area h f.1
not_early area (Summary place) h (inl f) = f.1.other (summary_is area h)
not_early area (Summary place) h (inr f) = no_difference place area h f.inside f.first
not_early area (EntrySpot index) h f = f

one_early : (area : List ℕ) (a b : Spot) → HasEarly area a → HasEarly area b → a ≡ b
unfolding HasEarly
one_early area (Place p) (Place q) (inl f) (inl g) = ap Place (one_difference p q area f.1 g.1)
one_early area (Place p) (Place q) (inl f) (inr g) = absurd (not_behind p 16 area f.0 f.1 g.1.0)
one_early area (Place p) (Place q) (inr f) (inl g) = absurd (not_behind q 16 area g.0 g.1 f.1.0)
one_early area (Place p) (Place q) (inr f) (inr g) = ap Place (f.0 ∙ sym g.0)
one_early area (Place p) (Summary q) (inl f) (inl g) = absurd (not_behind p 16 area f.0 f.1 g.1.agrees)
one_early area (Place p) (Summary q) (inl f) (inr g) = absurd (not_behind p q area (omega (arith, f.0, g.behind)) f.1 g.first.agrees)
one_early area (Place p) (Summary q) (inr f) (inl g) = absurd (not_cut area f.1 g.1)
one_early area (Place p) (Summary q) (inr f) (inr g) = absurd (not_cut_either q area f.1 g)
one_early area (Summary p) (Place q) (inl f) (inl g) = absurd (not_behind q 16 area g.0 g.1 f.1.agrees)
one_early area (Summary p) (Place q) (inl f) (inr g) = absurd (not_cut area g.1 f.1)
one_early area (Summary p) (Place q) (inr f) (inl g) = absurd (not_behind q p area (omega (arith, g.0, f.behind)) g.1 f.first.agrees)
one_early area (Summary p) (Place q) (inr f) (inr g) = absurd (not_cut_either p area g.1 f)
one_early area (Summary p) (Summary q) (inl f) (inl g) = ap Summary (f.0 ∙ sym g.0)
one_early area (Summary p) (Summary q) (inl f) (inr g) = absurd (f.1.other g.same_length)
one_early area (Summary p) (Summary q) (inr f) (inl g) = absurd (g.1.other f.same_length)
one_early area (Summary p) (Summary q) (inr f) (inr g) = ap Summary (one_difference p q area f.first g.first)
one_early area (EntrySpot i) b f g = absurd f
one_early area a (EntrySpot i) f g = absurd g

one_later : (area : List ℕ) (a b : Spot) → HasLater area a → HasLater area b → a ≡ b
unfolding HasLater
one_later area (Place p) (Place q) (inl f) (inl g) = ap Place (log_gate_gate p q area f g)
one_later area (Place p) (Place q) (inl f) (inr g) = absurd (log_gate_length p q area f g)
one_later area (Place p) (Place q) (inr f) (inl g) = absurd (log_gate_length q p area g f)
one_later area (Place p) (Place q) (inr f) (inr g) = ap Place (log_length_length p q area f g)
one_later area (Place p) (EntrySpot j) (inl f) g = absurd (log_gate_entry p j area f g)
one_later area (Place p) (EntrySpot j) (inr f) g = absurd (log_length_entry p j area f g)
one_later area (EntrySpot i) (Place q) f (inl g) = absurd (log_gate_entry q i area g f)
one_later area (EntrySpot i) (Place q) f (inr g) = absurd (log_length_entry q i area g f)
one_later area (EntrySpot i) (EntrySpot j) f g = ap EntrySpot (log_entry_entry i j area f g)
one_later area (Summary p) b f g = absurd f
one_later area a (Summary q) f g = absurd g

pub one_fault : (area : List ℕ) (a b : Spot) → HasFault area a → HasFault area b → a ≡ b
one_fault area a b f g = elim (early_or_later area a f) [
  | inl early ↦ elim (early_or_later area b g) [
    | inl early' ↦ one_early area a b early early'
    | inr later' ↦ absurd (not_early area a (header_of_later area b later') early)
  ]
  | inr later ↦ elim (early_or_later area b g) [
    | inl early' ↦ absurd (not_early area b (header_of_later area a later) early')
    | inr later' ↦ one_later area a b later later'
  ]
]
