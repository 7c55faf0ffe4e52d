-- Lemmas about block ends, epochs and the keys in force.
use Rattle.std.proofs.Common.{◌≡◌, ◌≢◌, ℕ, ◌+◌, ◌*◌, ◌^◌, ◌<◌, ◌≤◌, ◌==◌, ◌%◌, Bool, true, false, if◌then◌else◌, List, [], ◌∷◌, ◌++◌, length, All, refl, sym, ap, ◌∙◌, subst, arith, append_assoc}
use Rattle.std.specs.Prelude.{⊤}
use Rattle.std.proofs.lemmas.Bool.Decides.{Decides-eqb}
use Rattle.std.proofs.lemmas.List.Sums.{fold_push}
use Rattle.std.proofs.lemmas.List.Elements.{All-nil, All-cons, All-head, All-tail, All-append}
use Rattle.key_sets.specs.declared.set.KeySet.{KeySet}
use Rattle.key_sets.specs.declared.phase.Phase.{Phase}
use Rattle.key_sets.specs.declared.phase.Phase.TheVariants.{None, Steady, Spreading}
use Rattle.key_sets.specs.Keys.{key_id, numbered, keys_of, in_force, epoch_of}
use Rattle.journal_text.specs.declared.entry.Entry.{Entry}
use Rattle.journal_text.specs.declared.entry.Entry.TheVariants.{Block, Roll, Switch}
use Rattle.join_history.specs.Blocks.{block_end_after, block_end}
use Rattle.join_history.specs.Phases.{rolled, switched, phase_after, phase, IsNextEpoch, IsNextSet}
use Rattle.join_history.specs.Legal.{IsLegal, MayFollow}
use Rattle.join_history.proofs.LegalLemmas.{legal_induction, legal_growth}

-- the block end after one more entry
pub block_end-push : (h : List Entry) (c : ℕ) (e : Entry) → block_end (h ++ e ∷ []) c ≡ block_end_after c (block_end h c) e
block_end-push h c e = fold_push (block_end_after c) 0 h e

-- a multiple of 64 that is at most 2^40
abbrev pub IsBlockEnd : ℕ → Type 0
IsBlockEnd end = ((k : ℕ) × (end ≡ 64 * k)) × (end ≤ 2 ^ 40)

-- one of two block ends is a block end
one_of : (b : Bool) (to end : ℕ) → IsBlockEnd to → IsBlockEnd end → IsBlockEnd (if b then to else end)
one_of true to end is_to is_end = is_to
one_of false to end is_to is_end = is_end

-- one more entry keeps block ends
block_step : (h : List Entry) (e : Entry) (c : ℕ) → MayFollow h e → ((d : ℕ) → IsBlockEnd (block_end h d))
    → IsBlockEnd (block_end_after c (block_end h c) e)
block_step h (Block context to) c may ends =
    let k = (ends context).0 in
    let next : to ≡ 64 * (k.0 + 1) = omega (arith, may.2, k.1) in
    one_of (context == c) to (block_end h c) ((k.0 + 1, next), may.3) (ends c)
block_step h _ c may ends = ends c

-- a block end is a multiple of 64 and at most 2^40
pub block_ends : (h : List Entry) (c : ℕ) → IsLegal h → IsBlockEnd (block_end h c)
block_ends h c legal =
    legal_induction (λ h. (c : ℕ) → IsBlockEnd (block_end h c)) (λ c. ((0, refl), omega arith))
    (λ h e legal may ends c. subst IsBlockEnd (sym (block_end-push h c e)) (block_step h e c may ends)) h legal c

-- what a test of two numbers says
abbrev pub Decided : Bool → ℕ → ℕ → Type 0
Decided true a b = a ≡ b
Decided false a b = ⊤

pub decided : (a b : ℕ) → Decided (a == b) a b
decided a b = (elim (a == b) as (λ r. (r ≡ true → a ≡ b) → Decided r a b) [
  | true ↦ λ is. is refl
  | false ↦ λ _. tt
]) (Decides-eqb a b).0

-- a Block of the context raises its block end
block_raises : (h : List Entry) (context to c : ℕ) → to ≡ block_end h context + 64
    → block_end h c ≤ (if context == c then to else block_end h c)
block_raises h context to c next = (elim (context == c) as (λ b. Decided b context c → block_end h c ≤ (if b then to else block_end h c)) [
  | true ↦ λ same. let is : block_end h context ≡ block_end h c = ap (block_end h) same in omega (arith, next, is)
  | false ↦ λ _. omega arith
]) (decided context c)

-- one more entry lets no block end fall
block_rises : (h : List Entry) (e : Entry) (c : ℕ) → MayFollow h e → block_end h c ≤ block_end_after c (block_end h c) e
block_rises h (Block context to) c may = block_raises h context to c may.2
block_rises h _ c may = omega arith

-- a block end never falls
pub block_ends_rise : (h more : List Entry) (c : ℕ) → IsLegal (h ++ more) → block_end h c ≤ block_end (h ++ more) c
block_ends_rise h more c legal =
    legal_growth (λ g. block_end h c ≤ block_end g c)
    (λ g e before may so_far. rw block_end-push (omega (arith, so_far, block_rises g e c may))) h more legal (omega arith)

-- the phase after one more entry
pub phase-push : (h : List Entry) (e : Entry) → phase (h ++ e ∷ []) ≡ phase_after (phase h) e
phase-push h e = fold_push phase_after None h e

-- a Roll has the epoch after the newest one
next_epoch : (before : Phase) (set : KeySet) → IsNextEpoch before set.epoch
    → (set.epoch ≡ epoch_of before + 1) × (epoch_of (rolled before set) ≡ epoch_of before + 1)
next_epoch None set next = (next, next)
next_epoch (Steady old) set next = (next, next)
next_epoch (Spreading old new) set next = absurd next

-- each Roll has the epoch after the newest one
pub epochs_rise : (h : List Entry) (time : ℕ) (set : KeySet) → IsLegal (h ++ Roll time set ∷ [])
    → (set.epoch ≡ epoch_of (phase h) + 1) × (epoch_of (phase (h ++ Roll time set ∷ [])) ≡ epoch_of (phase h) + 1)
epochs_rise h time set legal =
    let may = legal h (Roll time set) [] refl in
    let next = next_epoch (phase h) set may.1.epoch in
    (next.0, ap epoch_of (phase-push h (Roll time set)) ∙ next.1)

-- at most 4 keys, of 16 bytes
pub record FitsSet (set : KeySet) : Type 0 where
  pub few_keys : length set.keys.items ≤ 4
  pub keys_of_16 : All (λ key. length key ≡ 16) set.keys.items

-- what the sets of a phase have: at most 4 keys, of 16 bytes, and epochs one after another
abbrev pub FitsPhase : Phase → Type 0
FitsPhase None = ⊤
FitsPhase (Steady set) = FitsSet set
FitsPhase (Spreading old new) = FitsSet old × FitsSet new × (new.epoch ≡ old.epoch + 1)

fits_next : (before : Phase) (set : KeySet) → IsNextSet before set → FitsSet set
fits_next before set next = record { few_keys = next.few_keys; keys_of_16 = next.keys_of_16 }

fits_rolled : (before : Phase) (set : KeySet) → FitsPhase before → IsNextSet before set → FitsPhase (rolled before set)
fits_rolled None set fits next = fits_next None set next
fits_rolled (Steady old) set fits next = (fits, fits_next (Steady old) set next, next.epoch)
fits_rolled (Spreading old new) set fits next = absurd next.epoch

fits_switched : (before : Phase) → FitsPhase before → FitsPhase (switched before)
fits_switched None fits = fits
fits_switched (Steady set) fits = fits
fits_switched (Spreading old new) fits = fits.1

fits_after : (h : List Entry) (before : Phase) (e : Entry) → before ≡ phase h → FitsPhase before → MayFollow h e
    → FitsPhase (phase_after before e)
fits_after h before (Roll time set) is fits may = fits_rolled before set fits (subst (λ ph. IsNextSet ph set) (sym is) may.1)
fits_after h before (Switch time epoch) is fits may = fits_switched before fits
fits_after h before _ is fits may = fits

-- the sets in force have at most 4 keys each, of 16 bytes, and epochs one after another
pub phase_fits : (h : List Entry) → IsLegal h → FitsPhase (phase h)
phase_fits =
    legal_induction (λ h. FitsPhase (phase h)) tt
    (λ h e legal may fits. subst FitsPhase (sym (phase-push h e)) (fits_after h (phase h) e refl fits may))

-- each id is 1 to 252
abbrev pub IsKeyId : ℕ × List ℕ → Type 0
IsKeyId key = (1 ≤ key.0) × (key.0 ≤ 252)

numbered_ids : (epoch place : ℕ) (keys : List (List ℕ)) → All IsKeyId (numbered epoch place keys)
numbered_ids epoch place [] = All-nil IsKeyId
numbered_ids epoch place (key ∷ keys) =
    All-cons IsKeyId (key_id epoch place, key) (numbered epoch (place + 1) keys) (omega arith, omega arith)
    (numbered_ids epoch (place + 1) keys)

-- the ids in force are 1 to 252
pub ids_in_range : (keys : Phase) → All IsKeyId (in_force keys)
ids_in_range None = All-nil IsKeyId
ids_in_range (Steady set) = numbered_ids set.epoch 0 set.keys.items
ids_in_range (Spreading old new) =
    All-append IsKeyId (keys_of old) (keys_of new) (numbered_ids old.epoch 0 old.keys.items) (numbered_ids new.epoch 0 new.keys.items)

-- each key has 16 bytes
abbrev pub HasWidth16 : ℕ × List ℕ → Type 0
HasWidth16 key = length key.1 ≡ 16

numbered_of_16 : (epoch place : ℕ) (keys : List (List ℕ)) → All (λ key. length key ≡ 16) keys → All HasWidth16 (numbered epoch place keys)
numbered_of_16 epoch place [] wide = All-nil HasWidth16
numbered_of_16 epoch place (key ∷ keys) wide =
    All-cons HasWidth16 (key_id epoch place, key) (numbered epoch (place + 1) keys) (All-head (λ x. length x ≡ 16) key keys wide)
    (numbered_of_16 epoch (place + 1) keys (All-tail (λ x. length x ≡ 16) key keys wide))

-- the keys in force have 16 bytes
pub keys_of_16 : (keys : Phase) → FitsPhase keys → All HasWidth16 (in_force keys)
keys_of_16 None fits = All-nil HasWidth16
keys_of_16 (Steady set) fits = numbered_of_16 set.epoch 0 set.keys.items fits.keys_of_16
keys_of_16 (Spreading old new) fits =
    All-append HasWidth16 (keys_of old) (keys_of new) (numbered_of_16 old.epoch 0 old.keys.items fits.0.keys_of_16)
    (numbered_of_16 new.epoch 0 new.keys.items fits.1.keys_of_16)

-- the ids are those of rising offsets from a base, within two bounds
Rises : ℕ → ℕ → ℕ → List (ℕ × List ℕ) → Type 0
Rises base from to [] = from ≤ to
Rises base from to (key ∷ keys) = (offset : ℕ) × (from ≤ offset) × (offset < to) × (key.0 ≡ 1 + (base + offset) % 252) × Rises base (offset + 1) to keys

rises_numbered : (base shift epoch place : ℕ) (keys : List (List ℕ)) → 4 * epoch ≡ base + shift → place + length keys ≤ 4
    → Rises base (shift + place) (shift + 4) (numbered epoch place keys)
unfolding Rises
rises_numbered base shift epoch place [] is few = omega (arith, few)
rises_numbered base shift epoch place (key ∷ keys) is few =
    let same : 4 * epoch + place ≡ base + (shift + place) = omega (arith, is) in
    let next : shift + (place + 1) ≡ (shift + place) + 1 = omega arith in (
      shift + place,
      omega arith,
      omega (arith, few),
      ap (λ (x : ℕ). 1 + x % 252) same,
      subst (λ (x : ℕ). Rises base x (shift + 4) (numbered epoch (place + 1) keys)) next
          (rises_numbered base shift epoch (place + 1) keys is (omega (arith, few))),
    )

-- a lower bound may be lowered
rises_from : (base from least to : ℕ) (keys : List (ℕ × List ℕ)) → from ≤ least → Rises base least to keys
    → Rises base from to keys
unfolding Rises
rises_from base from least to [] lower rises = omega (arith, lower, rises)
rises_from base from least to (key ∷ keys) lower rises =
    (rises.0, omega (arith, lower, rises.1), rises.2, rises.3, rises.4)

rises_then : (base from between to : ℕ) (xs ys : List (ℕ × List ℕ)) → Rises base from between xs → Rises base between to ys
    → between ≤ to → Rises base from to (xs ++ ys)
unfolding Rises
rises_then base from between to [] ys first second later = rises_from base from between to ys first second
rises_then base from between to (x ∷ xs) ys first second later =
    (first.0, first.1, omega (arith, first.2, later), first.3, rises_then base (first.0 + 1) between to xs ys first.4 second later)

-- a key among those of rising offsets has one of them
rises_later : (base from to : ℕ) (before after : List (ℕ × List ℕ)) (y : ℕ × List ℕ) → Rises base from to (before ++ y ∷ after)
    → (offset : ℕ) × (from ≤ offset) × (offset < to) × (y.0 ≡ 1 + (base + offset) % 252)
unfolding Rises
rises_later base from to [] after y rises = (rises.0, rises.1, rises.2, rises.3)
rises_later base from to (x ∷ before) after y rises =
    let later = rises_later base (rises.0 + 1) to before after y rises.4 in
    (later.0, omega (arith, rises.1, later.1), later.2, later.3)

-- numbers less than 252 apart leave two rests
ids_apart : (a b : ℕ) → a < b → b < a + 252 → a % 252 ≡ b % 252 → ⊥
ids_apart a b below near same = omega (arith, below, near, same)

-- two keys with offsets less than 252 apart have two ids
rises_differ : (base from to : ℕ) (before between after : List (ℕ × List ℕ)) (x y : ℕ × List ℕ) → to ≤ from + 8
    → Rises base from to (before ++ x ∷ (between ++ y ∷ after)) → x.0 ≢ y.0
unfolding Rises
rises_differ base from to (z ∷ before) between after x y few rises =
    rises_differ base (rises.0 + 1) to before between after x y (omega (arith, few, rises.1)) rises.4
rises_differ base from to [] between after x y few rises = λ same.
    let later = rises_later base (rises.0 + 1) to between after y rises.4 in
    ids_apart (base + rises.0) (base + later.0) (omega (arith, later.1)) (omega (arith, few, rises.1, later.2))
    (omega (arith, rises.3, later.3, same))

-- an upper bound may be raised
rises_to : (base from to greater : ℕ) (keys : List (ℕ × List ℕ)) → to ≤ greater → Rises base from to keys
    → Rises base from greater keys
unfolding Rises
rises_to base from to greater [] higher rises = omega (arith, higher, rises)
rises_to base from to greater (key ∷ keys) higher rises =
    (rises.0, rises.1, omega (arith, higher, rises.2), rises.3, rises_to base (rises.0 + 1) to greater keys higher rises.4)

-- the ids in force have rising offsets
rises_in_force : (keys : Phase) → FitsPhase keys → (base : ℕ) × Rises base 0 8 (in_force keys)
unfolding Rises
rises_in_force None fits = (0, omega arith)
rises_in_force (Steady set) fits =
    let keys = rises_numbered (4 * set.epoch) 0 set.epoch 0 set.keys.items (omega arith) (omega (arith, fits.few_keys)) in
    (4 * set.epoch, rises_to (4 * set.epoch) 0 4 8 (keys_of set) (omega arith) keys)
rises_in_force (Spreading old new) fits =
    let first = rises_numbered (4 * old.epoch) 0 old.epoch 0 old.keys.items (omega arith) (omega (arith, fits.0.few_keys)) in
    let second = rises_numbered (4 * old.epoch) 4 new.epoch 0 new.keys.items (omega (arith, fits.2)) (omega (arith, fits.1.few_keys)) in
    (4 * old.epoch, rises_then (4 * old.epoch) 0 4 8 (keys_of old) (keys_of new) first second (omega arith))

-- the ids of the keys in force are 1 to 252, and no two keys have one
pub key_ids_differ : (h : List Entry) → IsLegal h
    → All (λ key. (1 ≤ key.0) × (key.0 ≤ 252)) (in_force (phase h))
    × ((before between after : List (ℕ × List ℕ)) (x y : ℕ × List ℕ)
    → in_force (phase h) ≡ before ++ x ∷ between ++ y ∷ after → x.0 ≢ y.0)
key_ids_differ h legal =
    let rises = rises_in_force (phase h) (phase_fits h legal) in (
      ids_in_range (phase h),
      λ before between after x y is.
          let grouped = is ∙ append_assoc before (x ∷ between) (y ∷ after) in
          rises_differ rises.0 0 8 before between after x y (omega arith) (subst (Rises rises.0 0 8) grouped rises.1),
    )
