use Rattle.journal_store.specs.Fault.{AgreesTo}
use Rattle.journal_store.proofs.area.agreement.Given as goal

abbrev pub invariant-loop-place : goal.invariant-loop-place
invariant-loop-place l = record { agrees : AgreesTo l.place l.area }
