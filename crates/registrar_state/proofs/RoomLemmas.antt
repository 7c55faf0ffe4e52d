-- The room that is left after grants are forgotten.
use Rattle.std.proofs.Common.{◌≡◌, ℕ, ◌+◌, ◌≤◌, List, length, filter, IsPermutation, refl, arith}
use Rattle.std.specs.Prelude.{Bool, not}
use Rattle.std.proofs.lemmas.List.Filters.{length-filter_both}
use Rattle.std.proofs.lemmas.List.Sorted.{length_permutation}
use Rattle.address_leases.specs.declared.grant.Grant.{Grant as Lease}

-- where some were left out and all the room stays, there is no less of it
pub room_freed : (p : Lease → Bool) (old new : List Lease) (before after : ℕ) → IsPermutation (filter p old) new
    → length new + after ≡ length old + before → before ≤ after
room_freed p old new before after moved total =
    let all = length-filter_both p (λ x. not (p x)) (λ x. refl) old in
    let same = length_permutation (filter p old) new moved in
    omega (arith, all, same, total)
