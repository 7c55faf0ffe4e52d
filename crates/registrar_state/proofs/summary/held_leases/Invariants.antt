use Rattle.std.proofs.Common.{take}
use Rattle.registrar_state.specs.Summary.{AreHeld}
use Rattle.registrar_state.proofs.summary.held_leases.Given as goal

abbrev pub invariant-loop-at : goal.invariant-loop-at
invariant-loop-at l = AreHeld (take l.at l.leases.grants) l.time l.held.items
