use Rattle.std.proofs.Common.{◌≤◌}
use Rattle.registrar_state.specs.State.{spare_room}
use Rattle.registrar_bench.specs.States.{AreEnrolled}
use Rattle.registrar_bench.proofs.states.enrolled.Given as goal

abbrev pub invariant-loop-number : goal.invariant-loop-number
invariant-loop-number l = record { enrolled : AreEnrolled l.state l.number; room : 262143 ≤ (spare_room l.state).entries }
