use Rattle.std.proofs.lemmas.List.Filters.{dedup_is}
use Rattle.std.proofs.lemmas.List.Kept.{Contains-dedup, Contains-from_dedup, IsStrictlySortedBy-dedup}
use Rattle.std.proofs.lemmas.List.Sorted.{Contains-permutation, IsPermutation-sym}
use Rattle.registrar_state.specs.Summary.{IsLeaseBefore}
use Rattle.registrar_state.specs.contracts.summary.HeldLeaseOrd.TheImpl.Laws.{total-law, matches_eq-law}
use Rattle.registrar_state.specs.contracts.summary.HeldLeaseEq.TheImpl.Laws.{laws-law}
use Rattle.registrar_state.proofs.SummaryLemmas.{ascends_from_sorted, lease_cmp, lease_before, lease_same}
use Rattle.registrar_state.proofs.summary.put_in_order.Goals as goal

pub returns-clause-ascend : goal.returns-clause-ascend
returns-clause-ascend c =
    let is = dedup_is _ _ _ c.dedup.ensures.filtered in
    rw is (ascends_from_sorted lease_cmp IsLeaseBefore _ lease_before (IsStrictlySortedBy-dedup total-law matches_eq-law _ c.sort_unstable.ensures.sorted))

pub returns-clause-same : goal.returns-clause-same
returns-clause-same c =
    let is = dedup_is _ _ _ c.dedup.ensures.filtered in
    let moved = c.sort_unstable.ensures.permutation in
    λ l. (
      λ has. Contains-permutation _ _ l (IsPermutation-sym _ _ moved) (Contains-from_dedup _ _ l (rw is at has)),
      λ has. rw is (Contains-dedup laws-law lease_same _ l (Contains-permutation _ _ l moved has)),
    )
