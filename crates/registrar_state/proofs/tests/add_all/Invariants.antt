use Rattle.registrar_state.specs.State.{IsSome}
use Rattle.registrar_state.proofs.tests.add_all.Given as goal

abbrev pub invariant-loop-entry : goal.invariant-loop-entry
invariant-loop-entry l = IsSome l.state
