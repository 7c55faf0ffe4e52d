-- What comes after a replay that tears the writes after the last syncs.
use Rattle.std.proofs.Common.{◌≡◌, ◌⊎◌, inl, inr, ℕ, zero, suc, ◌+◌, ◌<◌, ◌≤◌, true, List, [], ◌∷◌, ◌++◌, length, take, get_or, refl, sym, ◌∙◌, ap, subst, arith}
use Rattle.std.proofs.lemmas.Bool.{leb-true}
use Rattle.std.proofs.lemmas.List.{take_more}
use Rattle.edge_traits.specs.declared.names.Area.{Area}
use Rattle.edge_traits.specs.declared.names.Area.TheVariants.{Left, Right}
use Rattle.edge_traits.specs.Disk.{Areas, bytes_of, other_area, Changes, Overwrites, Torn}
use Rattle.edge_traits.proofs.Torn.{torn_whole}
use Rattle.edge_memory.specs.Story.{Event, Idle, Write, Sync, of_area, seen_after, replayed, settled_after, settled, is_inside, all_inside, LeavesAfter, Leaves}
use Rattle.edge_memory.proofs.Stories.{replayed-push, inside_at, leaves_push}

-- The image may be left after this many calls. As far as an area is synced later on, it is what a read gives.
pub record IsReplayed (first : Areas) (events : List Event) (left right moment : ℕ) (held : Areas) : Type 0 where
  pub leaves : Leaves first first (take moment events) held
  pub durable : (area : Area) → moment ≤ of_area area left right → bytes_of held area ≡ bytes_of (replayed first (take moment events)) area

in_both : (P : Area → Type 0) (area : Area) → P area → P (other_area area) → (any : Area) → P any
in_both P Left here there Left = here
in_both P Left here there Right = there
in_both P Right here there Left = there
in_both P Right here there Right = here

written_here : (seen : Areas) (area : Area) (at : ℕ) (bytes new : List ℕ) → Overwrites at bytes (bytes_of seen area) new → new ≡ bytes_of (seen_after seen (Write area at bytes)) area
written_here seen Left at bytes new is = is
written_here seen Right at bytes new is = is

kept_there : (seen : Areas) (area : Area) (at : ℕ) (bytes : List ℕ) → bytes_of (seen_after seen (Write area at bytes)) (other_area area) ≡ bytes_of seen (other_area area)
kept_there seen Left at bytes = refl
kept_there seen Right at bytes = refl

pub replay_starts : (first : Areas) (events : List Event) (left right : ℕ) → IsReplayed first events left right 0 first
replay_starts first events left right = record { leaves = refl; durable = λ area le. refl }

module _ (first : Areas) (events : List Event) (left right : ℕ) (inside : all_inside first events ≡ true) (k : ℕ) (within : k < length events) (held : Areas) (so_far : IsReplayed first events left right k held) where
  abbrev seen : Areas
  seen = replayed first (take k events)

  step : (event : Event) (next : Areas) → get_or events k Idle ≡ event → LeavesAfter seen event held next
      → ((area : Area) → k + 1 ≤ of_area area left right → bytes_of next area ≡ bytes_of (seen_after seen event) area) → IsReplayed first events left right (k + 1) next
  step event next is leaves durable =
      let more : take (k + 1) events ≡ take k events ++ event ∷ [] = take_more events k Idle within ∙ ap (λ (e : Event). take k events ++ e ∷ []) is in
      let seen_more : replayed first (take (k + 1) events) ≡ seen_after seen event = ap (λ (es : List Event). replayed first es) more ∙ replayed-push first (take k events) event in
      record {
        leaves = subst (λ (es : List Event). Leaves first first es next) (sym more) (leaves_push first first (take k events) event held next so_far.leaves leaves);
        durable = λ area le. durable area le ∙ sym (ap (λ (areas : Areas). bytes_of areas area) seen_more);
      }

  pub rested : get_or events k Idle ≡ Idle → IsReplayed first events left right (k + 1) held
  rested is = step Idle held is refl (λ area le. so_far.durable area (omega arith))

  pub synced : (area : Area) → get_or events k Idle ≡ Sync area → k < of_area area left right → IsReplayed first events left right (k + 1) held
  synced area is before = step (Sync area) held is (refl, so_far.durable area (omega arith)) (λ any le. so_far.durable any (omega arith))

  -- a write of an area that is synced later on begins inside it
  pub begins_inside : (area : Area) (at : ℕ) (bytes : List ℕ) → get_or events k Idle ≡ Write area at bytes → k < of_area area left right → at ≤ length (bytes_of held area)
  begins_inside area at bytes is before =
      let test : is_inside seen (Write area at bytes) ≡ true = subst (λ (e : Event). is_inside seen e ≡ true) is (inside_at first events k within inside) in
      subst (λ (content : List ℕ). at ≤ length content) (sym (so_far.durable area (omega arith))) (leb-true at (length (bytes_of seen area)) test)

  pub whole : (area : Area) (at : ℕ) (bytes : List ℕ) (next : Areas) → get_or events k Idle ≡ Write area at bytes → k < of_area area left right → Changes area (Overwrites at bytes) held next
      → IsReplayed first events left right (k + 1) next
  whole area at bytes next is before change =
      step (Write area at bytes) next is (record { changed = torn_whole at bytes (bytes_of held area) (bytes_of next area) (begins_inside area at bytes is before) change.changed; same = change.same })
      (in_both (λ any. k + 1 ≤ of_area any left right → bytes_of next any ≡ bytes_of (seen_after seen (Write area at bytes)) any) area
      (λ le. written_here seen area at bytes (bytes_of next area) (subst (λ (content : List ℕ). Overwrites at bytes content (bytes_of next area)) (so_far.durable area (omega arith)) change.changed))
      (λ le. change.same ∙ so_far.durable (other_area area) (omega arith) ∙ sym (kept_there seen area at bytes)))

  pub torn : (area : Area) (at : ℕ) (bytes : List ℕ) (next : Areas) → get_or events k Idle ≡ Write area at bytes → of_area area left right ≤ k → Changes area (Torn at (length bytes)) held next
      → IsReplayed first events left right (k + 1) next
  torn area at bytes next is behind change =
      step (Write area at bytes) next is change
      (in_both (λ any. k + 1 ≤ of_area any left right → bytes_of next any ≡ bytes_of (seen_after seen (Write area at bytes)) any) area
      (λ le. absurd (omega arith))
      (λ le. change.same ∙ so_far.durable (other_area area) (omega arith) ∙ sym (kept_there seen area at bytes)))

-- both counts are past each sync of their area
pub found_sync : (events : List Event) (left right i count : ℕ) → ((k : ℕ) → k < count → get_or events k Idle ≡ Sync Left → k < left) → ((k : ℕ) → k < count → get_or events k Idle ≡ Sync Right → k < right)
    → i < count → (area : Area) → get_or events i Idle ≡ Sync area → i < of_area area left right
found_sync events left right i count lefts rights below Left is = lefts i below is
found_sync events left right i count lefts rights below Right is = rights i below is

-- where both areas are synced later on, it is what a read gives
pub replayed_whole : (first : Areas) (events : List Event) (left right moment count : ℕ) (held : Areas) → IsReplayed first events left right moment held → moment ≡ count → count ≤ left → count ≤ right → held ≡ replayed first (take count events)
replayed_whole first events left right moment count held so_far is lefts rights =
    let in_left = so_far.durable Left (omega arith) in
    let in_right = so_far.durable Right (omega arith) in
    (λ i. record { left = in_left i; right = in_right i }) ∙ ap (λ (n : ℕ). replayed first (take n events)) is

-- ---- what arrives of writes after the last syncs: nothing

-- From its last sync on an area stays as it was.
pub record IsSettled (first : Areas) (events : List Event) (left right moment : ℕ) (held : Areas) : Type 0 where
  pub stays : (area : Area) → of_area area left right ≤ moment → bytes_of held area ≡ bytes_of (replayed first (take (of_area area left right) events)) area

pub settling_starts : (first : Areas) (events : List Event) (left right : ℕ) → IsSettled first events left right 0 first
settling_starts first events left right = record {
  stays = λ area le.
      let none : of_area area left right ≡ 0 = omega arith in
      sym (ap (λ (n : ℕ). bytes_of (replayed first (take n events)) area) none);
}

-- a call that leaves each area as it was which isn't synced later on
pub settling_goes_on : (first : Areas) (events : List Event) (left right k : ℕ) (held next : Areas) → IsSettled first events left right k held → IsReplayed first events left right (k + 1) next
    → ((area : Area) → of_area area left right ≤ k → bytes_of next area ≡ bytes_of held area) → IsSettled first events left right (k + 1) next
settling_goes_on first events left right k held next so_far replays same = record { stays = λ area le. either area (le_or_last (of_area area left right) le) }
  where
    le_or_last : (n : ℕ) → n ≤ k + 1 → (n ≤ k) ⊎ (n ≡ k + 1)
    le_or_last n le = grind arith

    either : (area : Area) → (of_area area left right ≤ k) ⊎ (of_area area left right ≡ k + 1) → bytes_of next area ≡ bytes_of (replayed first (take (of_area area left right) events)) area
    either area (inl le) = same area le ∙ so_far.stays area le
    either area (inr last) = replays.durable area (omega (arith, last)) ∙ sym (ap (λ (n : ℕ). bytes_of (replayed first (take n events)) area) last)

pub each_area : (P : Area → Type 0) → P Left → P Right → (area : Area) → P area
each_area P left right Left = left
each_area P left right Right = right

-- a write that is synced later on
pub other_same : (area : Area) (left right k : ℕ) (held next : Areas) → k < of_area area left right → bytes_of next (other_area area) ≡ bytes_of held (other_area area)
    → (any : Area) → of_area any left right ≤ k → bytes_of next any ≡ bytes_of held any
other_same area left right k held next before same = in_both (λ any. of_area any left right ≤ k → bytes_of next any ≡ bytes_of held any) area (λ le. absurd (omega arith)) (λ le. same)

-- ---- the last sync of each area

abbrev last_bytes : Area → Areas → Areas → List Event → ℕ → List ℕ
last_bytes area from held events zero = bytes_of held area
last_bytes area from held events (suc k) = bytes_of (replayed from (take (suc k) events)) area

not_synced : (area : Area) (from held : Areas) (event : Event) → (event ≡ Sync area → ⊥) → bytes_of (settled_after from held event) area ≡ bytes_of held area
not_synced area from held Idle other = refl
not_synced area from held (Write at_area at bytes) other = refl
not_synced Left from held (Sync Left) other = absurd (other refl)
not_synced Left from held (Sync Right) other = refl
not_synced Right from held (Sync Left) other = refl
not_synced Right from held (Sync Right) other = absurd (other refl)

synced_now : (area : Area) (seen held : Areas) (event : Event) → event ≡ Sync area → bytes_of (settled_after seen held event) area ≡ bytes_of (seen_after seen event) area
synced_now area seen held event is = subst (λ (e : Event). bytes_of (settled_after seen held e) area ≡ bytes_of (seen_after seen e) area) (sym is) (by_area area)
  where
    by_area : (area : Area) → bytes_of (settled_after seen held (Sync area)) area ≡ bytes_of seen area
    by_area Left = refl
    by_area Right = refl

last_is : (area : Area) (seen held : Areas) (events : List Event) (count kept : ℕ) → kept ≤ count → count ≤ length events
    → ((k : ℕ) → k < count → get_or events k Idle ≡ Sync area → k < kept) → ((k : ℕ) → kept ≡ k + 1 → get_or events k Idle ≡ Sync area)
    → bytes_of (settled seen held (take count events)) area ≡ last_bytes area seen held events kept
last_is area seen held events zero zero most within syncs last = refl
last_is area seen held events zero (suc k) most within syncs last = absurd (omega arith)
last_is area seen held [] (suc c) kept most within syncs last = absurd (omega arith)
last_is area seen held (e ∷ events) (suc c) zero most within syncs last =
    last_is area (seen_after seen e) (settled_after seen held e) events c zero (omega arith) (omega arith) (λ k below is. absurd (let no : suc k < 0 = syncs (suc k) (omega arith) is in omega arith)) (λ k is. absurd (omega arith))
    ∙ not_synced area seen held e (λ is. let no : 0 < 0 = syncs 0 (omega arith) is in omega arith)
last_is area seen held (e ∷ events) (suc c) (suc zero) most within syncs last =
    last_is area (seen_after seen e) (settled_after seen held e) events c zero (omega arith) (omega arith) (λ k below is. let one : suc k < 1 = syncs (suc k) (omega arith) is in omega arith) (λ k is. absurd (omega arith))
    ∙ synced_now area seen held e (last 0 refl)
last_is area seen held (e ∷ events) (suc c) (suc (suc n)) most within syncs last =
    last_is area (seen_after seen e) (settled_after seen held e) events c (suc n) (omega arith) (omega arith) (λ k below is. let one : suc k < suc (suc n) = syncs (suc k) (omega arith) is in omega arith) (λ k is. last (suc k) (omega arith))

from_first : (area : Area) (first : Areas) (events : List Event) (kept : ℕ) → last_bytes area first first events kept ≡ bytes_of (replayed first (take kept events)) area
from_first area first events zero = refl
from_first area first events (suc k) = refl

-- an area whose writes end with its last sync is as this left it
pub settled_is : (first held : Areas) (events : List Event) (left right moment count : ℕ) → IsSettled first events left right moment held → moment ≡ count → count ≤ length events
    → ((area : Area) → of_area area left right ≤ count) → ((area : Area) (k : ℕ) → k < count → get_or events k Idle ≡ Sync area → k < of_area area left right)
    → ((area : Area) (k : ℕ) → of_area area left right ≡ k + 1 → get_or events k Idle ≡ Sync area) → held ≡ settled first first (take count events)
settled_is first held events left right moment count so_far is within most syncs last = λ i. record { left = in_area Left i; right = in_area Right i }
  where
    in_area : (area : Area) → bytes_of held area ≡ bytes_of (settled first first (take count events)) area
    in_area area =
        so_far.stays area (omega (arith, most area))
        ∙ sym (last_is area first first events count (of_area area left right) (most area) within (syncs area) (last area) ∙ from_first area first events (of_area area left right))
