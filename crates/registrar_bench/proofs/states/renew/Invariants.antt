use Rattle.std.proofs.Common.{◌+◌, ◌≤◌}
use Rattle.registrar_state.specs.State.{spare_room}
use Rattle.registrar_bench.specs.States.{AreEnrolled}
use Rattle.registrar_bench.proofs.states.renew.Given as goal

abbrev pub invariant-turns : goal.invariant-turns
invariant-turns l = record { enrolled : AreEnrolled l.state 16384; room : l.count ≤ (spare_room l.state).entries + l.turn }
