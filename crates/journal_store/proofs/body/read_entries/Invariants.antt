use Rattle.std.proofs.Common.{length}
use Rattle.journal_store.proofs.Bodies.{IsPart}
use Rattle.journal_store.proofs.body.read_entries.Given as goal

abbrev pub invariant-loop-rest : goal.invariant-loop-rest
invariant-loop-rest l = record { part : IsPart l.body l.fn.log.items l.log.items l.rest }

abbrev pub decreases-loop-rest : goal.decreases-loop-rest
decreases-loop-rest l = length l.rest
