use Rattle.registrar_state.proofs.ReleaseLemmas.{NoneHeldBefore}
use Rattle.registrar_state.proofs.follow.holds_some.Given as goal

abbrev pub invariant-loop-at : goal.invariant-loop-at
invariant-loop-at l = NoneHeldBefore l.leases.grants l.pledge l.time l.at
