-- The entries of a batch, one more each turn.
use Rattle.std.proofs.Common.{◌≡◌, ◌≢◌, ℕ, ◌+◌, ◌-◌, ◌*◌, ◌^◌, ◌≤◌, ◌<◌, List, [], ◌∷◌, ◌++◌, length, take, drop, min, refl, sym, ap, subst, ◌∙◌, append_assoc, append-nil, arith, length-append, take-append-drop, Result, Ok, Err}
use Rattle.std.specs.Result.{OkIff, result_unwrap_or}
use Rattle.std.specs.Prelude.{IfOk, Vec}
use Rattle.std.specs.declared.alloc.Global.{Global}
use Rattle.std.proofs.lemmas.List.{length-take}
use Rattle.std.proofs.lemmas.Bool.{le-ltb}
use Rattle.std.proofs.lemmas.List.Concat.{flat_map-append}
use Rattle.std.specs.List.{flat_map, AllByRecursion}
use Rattle.journal_text.specs.declared.entry.Entry.{Entry}
use Rattle.journal_text.specs.declared.entry.Entry.TheVariants.{Settings, Enroll, Grant, Refuse, Block, Roll, Given, Stale, Switch, Release}
use Rattle.journal_text.specs.Numbers.{number_text, number_of}
use Rattle.journal_text.specs.Reading.{number_at}
use Rattle.journal_text.specs.Text.{Fits, entry_text, entries_text}
use Rattle.journal_text.proofs.Fields.{IsBytes, number4, length-number_text}
use Rattle.journal_store.specs.declared.fault.StoreFault.{StoreFault}
use Rattle.journal_store.specs.declared.fault.StoreFault.TheVariants.{Disk, AlreadyThere, NotAJournal, NoMemory}
use Rattle.journal_store.specs.declared.fault.Spot.TheVariants.{Place, Summary, Entry as EntrySpot}
use Rattle.journal_store.specs.Area.{first_header, IsBatch, body_text, batch_text, prefix_text, IsRead, IsLog}
use Rattle.journal_store.specs.Fault.{IsBody, HasNoLength, HasNoLengthAt, HasNoGate, BodyCause, AreaCause}
use Rattle.journal_store.specs.Store.{end_limit}
use Rattle.journal_store.proofs.Areas.{All-push, batch_more}

-- an entry has a kind byte
pub entry_some : (e : Entry) → 1 ≤ length (entry_text e)
unfolding entry_text
entry_some (Settings time settings) = omega arith
entry_some (Enroll context id check) = omega arith
entry_some (Grant time context number address until) = omega arith
entry_some (Refuse time context number why) = omega arith
entry_some (Block context to) = omega arith
entry_some (Roll time set) = omega arith
entry_some (Given time context number epoch) = omega arith
entry_some (Stale time id epoch) = omega arith
entry_some (Switch time epoch) = omega arith
entry_some (Release time id) = omega arith

pub entries_text-push : (entries : List Entry) (e : Entry) → entries_text (entries ++ e ∷ []) ≡ entries_text entries ++ entry_text e
entries_text-push entries e = flat_map-append entry_text entries (e ∷ []) ∙ ap (λ (xs : List ℕ). entries_text entries ++ xs) (append-nil (entry_text e))

-- entries were read from the start of the body, and joined the log
pub record IsPart (body : List ℕ) (first log : List Entry) (rest : List ℕ) : Type 0 where
  pub entries : List Entry
  pub fit : AllByRecursion Fits entries
  pub text : body ≡ entries_text entries ++ rest
  pub joined : log ≡ first ++ entries

pub part_none : (body : List ℕ) (first : List Entry) → IsPart body first first body
part_none body first = record { entries = []; fit = tt; text = refl; joined = sym (append-nil first) }

pub part_more : (body : List ℕ) (first log : List Entry) (rest after : List ℕ) (e : Entry) → IsPart body first log rest → Fits e → rest ≡ entry_text e ++ after
    → IsPart body first (log ++ e ∷ []) after
part_more body first log rest after e part fit is = record {
  entries = part.entries ++ e ∷ [];
  fit = All-push Fits part.entries e part.fit fit;
  text = part.text ∙ ap (λ (xs : List ℕ). entries_text part.entries ++ xs) is ∙ sym (append_assoc (entries_text part.entries) (entry_text e) after)
      ∙ ap (λ (xs : List ℕ). xs ++ after) (sym (entries_text-push part.entries e));
  joined = ap (λ (xs : List Entry). xs ++ e ∷ []) part.joined ∙ append_assoc first part.entries (e ∷ []);
}

pub part_bad : (body : List ℕ) (first log : List Entry) (rest : List ℕ) (index : ℕ) → IsPart body first log rest → rest ≢ []
    → ((e : Entry) (more : List ℕ) → Fits e → rest ≡ entry_text e ++ more → ⊥) → index ≡ min (length log) (2 ^ 32 - 1)
    → BodyCause (length first) body (NotAJournal (EntrySpot index))
part_bad body first log rest index part more none told = (
  length part.entries,
  record { before = part.entries; counts = refl; fit = part.fit; bad = rest; text = part.text; more = more; none = none },
  told ∙ ap (λ (n : ℕ). min n (2 ^ 32 - 1)) (ap length part.joined ∙ length-append first part.entries),
)

pub err_is_not_ok : {A E : Type 0} (e : E) (x : A) → Err e ≡ Ok x → ⊥
err_is_not_ok e x is = cc

-- a count that may pass 32 bits
pub told_count : {E : Type 0} (r : Result ℕ E) (n : ℕ) → OkIff r (n < 2 ^ 32) n → result_unwrap_or r (2 ^ 32 - 1) ≡ min n (2 ^ 32 - 1)
told_count (Ok x) n is = omega (arith, is.0, is.1)
told_count (Err e) n is = omega (arith, is)

-- ---- the length before a body

pub split : (bytes body behind : List ℕ) (size : ℕ) → IsBytes bytes → 4 ≤ length bytes → size ≡ number_of 4 bytes → length body ≡ size → drop 4 bytes ≡ body ++ behind
    → bytes ≡ number_text 4 (length body) ++ body ++ behind
split bytes body behind size fits long is len after =
    let read : number_at 4 0 bytes ≡ Ok (number_of 4 bytes, drop 4 bytes) = rw (le-ltb (length bytes) 4 long) refl in
    let taken = (number4.takes 0 bytes (number_of 4 bytes) (drop 4 bytes) fits read).0 in
    taken.parts ∙ ap (λ (n : ℕ). number_text 4 n ++ drop 4 bytes) (sym is ∙ sym len) ∙ ap (λ (xs : List ℕ). number_text 4 (length body) ++ xs) after
    ∙ sym (append_assoc (number_text 4 (length body)) body behind)

-- ---- a batch more in an area

pub read_length : (end : ℕ) (log : List Entry) (area rest : List ℕ) → IsRead first_header end log area rest → length area ≡ end + length rest
read_length end log area rest read = omega (arith, read.ends, ap length read.text, length-append (prefix_text first_header read.batches) rest)

-- the entries of a body make a batch
pub batch_of : (body behind bytes : List ℕ) (entries : List Entry) → IsBody body behind bytes → AllByRecursion Fits entries → body ≡ entries_text entries → IsBatch entries
batch_of body behind bytes entries is fit text = record { some = omega (arith, is.some, ap length text); most = omega (arith, is.most, ap length text); fit = fit }

pub area_more : (area : List ℕ) (log : List Entry) (rest bytes body behind : List ℕ) (entries : List Entry) → IsRead first_header (length area - length rest) log area rest → rest ≡ 1 ∷ bytes
    → IsBody body behind bytes → AllByRecursion Fits entries → body ≡ entries_text entries → IsRead first_header (length area - length behind) (log ++ entries) area behind
unfolding body_text
area_more area log rest bytes body behind entries read is_open is fit text =
    let end = length area - length rest in
    let spelled : bytes ≡ body_text entries ++ behind = is.text ∙ ap (λ (xs : List ℕ). number_text 4 (length xs) ++ xs ++ behind) text in
    let opened : IsRead first_header end log area (1 ∷ (body_text entries ++ behind)) = subst (λ (xs : List ℕ). IsRead first_header end log area xs) (is_open ∙ ap (λ (xs : List ℕ). 1 ∷ xs) spelled) read in
    let next = batch_more first_header end log area entries behind opened (batch_of body behind bytes entries is fit text) in
    let ends : end + 1 + length (body_text entries) ≡ length area - length behind = omega (arith, read_length _ _ _ _ next) in
    subst (λ (n : ℕ). IsRead first_header n (log ++ entries) area behind) ends next

pub no_entry_in : (area : List ℕ) (log : List Entry) (rest bytes body behind : List ℕ) (fault : StoreFault) → IsRead first_header (length area - length rest) log area rest → rest ≡ 1 ∷ bytes
    → IsBody body behind bytes → BodyCause (length log) body fault → AreaCause area fault
no_entry_in area log rest bytes body behind (NotAJournal (EntrySpot index)) read is_open is cause = record {
  gate = length area - length rest;
  log = log;
  bytes = bytes;
  read = subst (λ (xs : List ℕ). IsRead first_header (length area - length rest) log area xs) is_open read;
  body = body;
  behind = behind;
  is_body = is;
  count = cause.0;
  fault = cause.1;
  told = cause.2;
}
no_entry_in area log rest bytes body behind (NotAJournal (Place place)) read is_open is cause = absurd cause
no_entry_in area log rest bytes body behind (NotAJournal (Summary place)) read is_open is cause = absurd cause
no_entry_in area log rest bytes body behind NoMemory read is_open is cause = tt
no_entry_in area log rest bytes body behind (Disk count) read is_open is cause = absurd cause
no_entry_in area log rest bytes body behind (AlreadyThere n) read is_open is cause = absurd cause

pub no_length_in : (area : List ℕ) (log : List Entry) (rest bytes : List ℕ) → IsRead first_header (length area - length rest) log area rest → rest ≡ 1 ∷ bytes
    → HasNoLength bytes → HasNoLengthAt (length area - length bytes) area
no_length_in area log rest bytes read is_open fault = record {
  gate = length area - length rest;
  log = log;
  bytes = bytes;
  read = subst (λ (xs : List ℕ). IsRead first_header (length area - length rest) log area xs) is_open read;
  next = omega (arith, read_length _ _ _ _ read, ap length is_open);
  fault = fault;
}

pub no_gate_in : (area : List ℕ) (log : List Entry) (rest : List ℕ) → IsRead first_header (length area - length rest) log area rest → rest ≡ [] → HasNoGate (length area) area
no_gate_in area log rest read none =
    let end : length area - length rest ≡ length area = omega (arith, ap length none) in
    (log, subst (λ (xs : List ℕ). IsRead first_header (length area) log area xs) none (subst (λ (n : ℕ). IsRead first_header n log area rest) end read))

-- an area after whose header nothing was read yet
pub begun : (area : List ℕ) → take 42 area ≡ first_header → IsRead first_header 42 [] area (drop 42 area)
unfolding prefix_text
begun area is = record {
  batches = [];
  whole = tt;
  holds = refl;
  text = sym (take-append-drop 42 area) ∙ ap (λ (xs : List ℕ). xs ++ drop 42 area) is;
  ends = refl;
}

-- ---- how far a log reaches

batches_limit : (batches : List (List Entry)) → AllByRecursion IsBatch batches → length (flat_map batch_text batches) ≤ 4101 * length (flat_map (λ x. x) batches)
unfolding body_text
batches_limit [] all = omega arith
batches_limit ([] ∷ batches) all = absurd (omega (arith, all.0.some))
batches_limit ((e ∷ es) ∷ batches) all =
    omega (
      arith,
      batches_limit batches all.1,
      all.0.most,
      length-append (batch_text (e ∷ es)) (flat_map batch_text batches),
      length-append (number_text 4 (length (entries_text (e ∷ es)))) (entries_text (e ∷ es)),
      length-number_text 4 (length (entries_text (e ∷ es))),
      length-append es (flat_map (λ x. x) batches),
    )

pub log_limit : (end : ℕ) (log : List Entry) (area : List ℕ) → IsLog first_header end log area → end ≤ end_limit (length log)
unfolding prefix_text
log_limit end log area is =
    omega (arith, is.read.ends, ap length is.read.holds, batches_limit is.read.batches is.read.whole, length-append first_header (flat_map batch_text is.read.batches))

pub limit_of : {E : Type 0} (area : List ℕ) (r : Result (ℕ × Vec Entry Global) E) → IfOk r (λ read. IsLog first_header read.0 read.1.items area) → IfOk r (λ read. read.0 ≤ end_limit (length read.1.items))
limit_of area (Ok read) is = log_limit read.0 read.1.items area is
limit_of area (Err e) is = tt

-- the header is whole
pub header_whole : (area : List ℕ) → take 42 area ≡ first_header → 42 ≤ length area
header_whole area is = omega (arith, ap length is, length-take 42 area)
