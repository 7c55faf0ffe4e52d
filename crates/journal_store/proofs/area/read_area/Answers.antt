-- The end is bounded by the log.
use Rattle.journal_store.proofs.Bodies.{limit_of}
use Rattle.journal_store.proofs.area.read_area.Goals as goal

pub returns-in-Ok-clause-end : goal.returns-in-Ok-clause-end
returns-in-Ok-clause-end c = limit_of c.args.area.now c.read_batches.result c.read_batches.ensures.found
