use Rattle.std.proofs.Common.{ℕ, ◌<◌, List}
use Rattle.journal_text.specs.declared.entry.Entry.{Entry}
use Rattle.registrar_state.specs.Decisions.{AreAged}
use Rattle.registrar_state.specs.State.{StandsFor}
use Rattle.registrar_state.proofs.state.RegState.are_aged.Given as goal

abbrev pub invariant-loop-context : goal.invariant-loop-context
invariant-loop-context l = (h : List Entry) → StandsFor l.self h → (c : ℕ) → c < l.context → AreAged h c l.pledge l.time
