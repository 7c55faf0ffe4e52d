use Rattle.std.proofs.Common.{◌-◌, length}
use Rattle.journal_store.specs.Area.{first_header, IsRead}
use Rattle.journal_store.proofs.area.read_batches.Given as goal

abbrev pub invariant-loop-gate : goal.invariant-loop-gate
invariant-loop-gate l = record { read : IsRead first_header (length l.area - length l.rest) l.log.items l.area l.rest }

abbrev pub decreases-loop-gate : goal.decreases-loop-gate
decreases-loop-gate l = length l.rest
