-- The laws of a clock of moments, for what happened to a disk.
use Rattle.std.specs.Prelude.{◌≡◌, ℕ, ◌≤◌, Bool, true, false, ◌&&◌, List, [], ◌∷◌, length, take, refl}
use Rattle.std.proofs.Common.{sym, subst, arith}
use Rattle.std.proofs.lemmas.Bool.{leb-true}
use Rattle.std.proofs.lemmas.List.{take_all}
use Rattle.edge_traits.specs.declared.names.Area.{Area}
use Rattle.edge_traits.specs.declared.names.Area.TheVariants.{Left, Right}
use Rattle.edge_traits.specs.Disk.{Areas, bytes_of, Changes, Torn}
use Rattle.edge_traits.proofs.Torn.{torn_whole}
use Rattle.edge_memory.specs.Story.{Event, Idle, Write, Sync, Story, overwritten, seen_after, replayed, is_inside, all_inside, Leaves, MayLeave, LeftSince}

-- two tests that both hold
pub both : (a b : Bool) → (a && b) ≡ true → (a ≡ true) × (b ≡ true)
both true b e = (refl, e)
both false b e = absurd (cc e)

whole_write : (area : Area) (at : ℕ) (bytes : List ℕ) (seen : Areas) → at ≤ length (bytes_of seen area) → Changes area (Torn at (length bytes)) seen (seen_after seen (Write area at bytes))
whole_write Left at bytes seen le = record { changed = torn_whole at bytes seen.left (overwritten at bytes seen.left) le refl; same = refl }
whole_write Right at bytes seen le = record { changed = torn_whole at bytes seen.right (overwritten at bytes seen.right) le refl; same = refl }

all_arrived : (seen : Areas) (events : List Event) → all_inside seen events ≡ true → Leaves seen seen events (replayed seen events)
all_arrived seen [] all = refl
all_arrived seen (Idle ∷ events) all = (seen, refl, all_arrived seen events all)
all_arrived seen (Write area at bytes ∷ events) all =
    let parts = both (is_inside seen (Write area at bytes)) (all_inside (seen_after seen (Write area at bytes)) events) all in (
      seen_after seen (Write area at bytes),
      whole_write area at bytes seen (leb-true at (length (bytes_of seen area)) parts.0),
      all_arrived (seen_after seen (Write area at bytes)) events parts.1,
    )
all_arrived seen (Sync area ∷ events) all = (seen, (refl, refl), all_arrived seen events all)

-- a crash may leave what a read gives
pub seen_is_left : (story : Story) (seen : Areas) → seen ≡ replayed story.first story.events → all_inside story.first story.events ≡ true → MayLeave story seen
seen_is_left story seen told inside = subst (MayLeave story) (sym told) (all_arrived story.first story.events inside)

-- now is one of the moments since an earlier one
pub counts_now : (story : Story) (since : ℕ) (image : Areas) → since ≤ length story.events → MayLeave story image → LeftSince story since image
counts_now story since image le now =
    let all : take (length story.events) story.events ≡ story.events = take_all (length story.events) story.events (omega arith) in (
      length story.events,
      le,
      omega arith,
      subst (λ (events : List Event). Leaves story.first story.first events image) (sym all) now,
    )

-- since now there is no other
pub only_now : (story : Story) (image : Areas) → LeftSince story (length story.events) image → MayLeave story image
only_now story image left =
    let all : take left.0 story.events ≡ story.events = take_all left.0 story.events left.1 in
    subst (λ (events : List Event). Leaves story.first story.first events image) all left.3
