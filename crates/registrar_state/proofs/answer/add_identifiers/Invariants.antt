use Rattle.std.proofs.Common.{◌≡◌, ◌≤◌, ◌++◌, ◌+◌, length, map}
use Rattle.edge_traits.specs.declared.names.PledgeId.{PledgeId}
use Rattle.registrar_state.proofs.answer.add_identifiers.Given as goal

abbrev pub invariant-loop-rest : goal.invariant-loop-rest
invariant-loop-rest l =
    (l.ids.items ++ map (λ (p : PledgeId). p.0) l.rest ≡ l.fn.ids.items ++ map (λ (p : PledgeId). p.0) l.pledges) × (length l.ids.items + length l.rest ≤ 16)

abbrev pub decreases-loop-rest : goal.decreases-loop-rest
decreases-loop-rest l = length l.rest
