-- A log of bytes that grows under a record of calls.
use Rattle.std.proofs.Common.{◌≡◌, ℕ, ◌+◌, ◌-◌, ◌<◌, ◌≤◌, get_or, true, List, [], ◌∷◌, ◌++◌, length, take, drop, refl, sym, ◌∙◌, ap, arith, length-append}
use Rattle.std.specs.Prelude.{map}
use Rattle.std.specs.List.{list_all}
use Rattle.std.specs.Cmp.Derive.{both_true}
use Rattle.std.proofs.lemmas.Bool.{leb-true}
use Rattle.std.proofs.lemmas.Bool.Decides.{nat_tests}
use Rattle.std.proofs.lemmas.List.{take-append-le, drop-append-le, take_all, drop_at, length-drop, map-append, get_or-map, length-map}
use Rattle.std.proofs.lemmas.List.Folds.{list_all-append}
use Rattle.edge_traits.specs.declared.names.Area.{Area}
use Rattle.edge_memory.specs.declared.call_log.Call.{Call}
use Rattle.edge_memory.specs.declared.call_log.Call.TheVariants.{Rested, Wrote, Synced}
use Rattle.edge_memory.specs.Story.{Idle, Write, Sync}
use Rattle.edge_memory.specs.Call.{is_logged, event_of}
use Rattle.edge_memory.specs.StoryLaws.{both}

still_logged : (m n : ℕ) (call : Call) → m ≤ n → is_logged m call ≡ true → is_logged n call ≡ true
still_logged m n Rested le here = refl
still_logged m n (Wrote area at from len) le here = let fits : from + len ≤ m = leb-true (from + len) m here in grind (arith, nat_tests)
still_logged m n (Synced area) le here = refl

pub logged_more : (m n : ℕ) (calls : List Call) → m ≤ n → list_all (is_logged m) calls ≡ true → list_all (is_logged n) calls ≡ true
logged_more m n [] le all = refl
logged_more m n (call ∷ calls) le all =
    let parts = both (is_logged m call) (list_all (is_logged m) calls) all in both_true (still_logged m n call le parts.0) (logged_more m n calls le parts.1)

event_stays : (log bytes : List ℕ) (call : Call) → is_logged (length log) call ≡ true → event_of (log ++ bytes) call ≡ event_of log call
event_stays log bytes Rested here = refl
event_stays log bytes (Wrote area at from len) here =
    let fits : from + len ≤ length log = leb-true (from + len) (length log) here in
    ap (λ (part : List ℕ). Write area at part)
    (ap (λ (rest : List ℕ). take len rest) (drop-append-le from log bytes (omega arith)) ∙ take-append-le len (drop from log) bytes (omega (arith, length-drop from log)))
event_stays log bytes (Synced area) here = refl

-- what was recorded stays as it was
pub events_stay : (log bytes : List ℕ) (calls : List Call) → list_all (is_logged (length log)) calls ≡ true → map (event_of (log ++ bytes)) calls ≡ map (event_of log) calls
events_stay log bytes [] all = refl
events_stay log bytes (call ∷ calls) all =
    let parts = both (is_logged (length log) call) (list_all (is_logged (length log)) calls) all in
    λ i. event_stays log bytes call parts.0 i ∷ events_stay log bytes calls parts.1 i

-- the newest bytes
pub newest : (log bytes : List ℕ) → take (length bytes) (drop (length log) (log ++ bytes)) ≡ bytes
newest log bytes = ap (λ (rest : List ℕ). take (length bytes) rest) (drop_at log bytes (length log) refl) ∙ take_all (length bytes) bytes (omega arith)

module _ (log bytes log' : List ℕ) (calls calls' : List Call) (area : Area) (at from : ℕ) (starts : from ≡ length log) (log_grows : log' ≡ log ++ bytes) (calls_grow : calls' ≡ calls ++ Wrote area at from (length bytes) ∷ [])
    (all : list_all (is_logged (length log)) calls ≡ true) where
  -- the record stays sound
  pub logged_push : list_all (is_logged (length log')) calls' ≡ true
  logged_push =
      let long : length log' ≡ length log + length bytes = ap length log_grows ∙ length-append log bytes in
      let fits : from + length bytes ≤ length log' = omega arith in
      let last : is_logged (length log') (Wrote area at from (length bytes)) ≡ true = grind (arith, nat_tests) in
      ap (list_all (is_logged (length log'))) calls_grow ∙ list_all-append (is_logged (length log')) calls (Wrote area at from (length bytes) ∷ [])
      ∙ both_true (logged_more (length log) (length log') calls (omega arith) all) (both_true last refl)

  -- and stands for one write more
  pub events_push : map (event_of log') calls' ≡ map (event_of log) calls ++ Write area at bytes ∷ []
  events_push =
      (λ i. map (event_of (log_grows i)) (calls_grow i))
      ∙ map-append (event_of (log ++ bytes)) calls (Wrote area at from (length bytes) ∷ [])
      ∙ (λ i. events_stay log bytes calls all i ++ Write area at (take (length bytes) (drop (starts i) (log ++ bytes))) ∷ [])
      ∙ ap (λ (part : List ℕ). map (event_of log) calls ++ Write area at part ∷ []) (newest log bytes)

-- the event of one call of the log
pub event_at : (bytes : List ℕ) (calls : List Call) (i : ℕ) (call : Call) → i < length calls → call ≡ get_or calls i call → get_or (map (event_of bytes) calls) i Idle ≡ event_of bytes call
event_at bytes calls i call within is = get_or-map (event_of bytes) calls i call Idle within ∙ ap (event_of bytes) (sym is)

-- a call whose event is a sync is one
pub synced_call : (bytes : List ℕ) (call : Call) (area : Area) → event_of bytes call ≡ Sync area → call ≡ Synced area
synced_call bytes Rested area is = absurd (cc is)
synced_call bytes (Wrote other at from len) area is = absurd (cc is)
synced_call bytes (Synced other) area is = let same : other ≡ area = cc is in ap Synced same

-- a place among the events is one among the calls
pub call_within : (bytes : List ℕ) (calls : List Call) (i count : ℕ) → i < count → count ≤ length (map (event_of bytes) calls) → i < length calls
call_within bytes calls i count below le = let long : length (map (event_of bytes) calls) ≡ length calls = length-map calls (event_of bytes) in omega arith

-- the event of a call that wrote, with its bytes as they are in the log
pub write_at : (bytes now : List ℕ) (calls : List Call) (i : ℕ) (call : Call) (area : Area) (at from len : ℕ) → i < length calls → call ≡ get_or calls i call → call ≡ Wrote area at from len → now ≡ bytes
    → get_or (map (event_of bytes) calls) i Idle ≡ Write area at (take (from + len - from) (drop from now))
write_at bytes now calls i call area at from len within here is same =
    let long : from + len - from ≡ len = omega arith in
    event_at bytes calls i call within here ∙ ap (event_of bytes) is ∙ (λ j. Write area at (take (sym long j) (drop from (sym same j))))
