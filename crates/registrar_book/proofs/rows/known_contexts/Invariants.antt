use Rattle.std.proofs.Common.{◌≡◌, ◌++◌, length}
use Rattle.registrar_book.specs.Known.{known_of}
use Rattle.registrar_book.proofs.rows.known_contexts.Given as goal

abbrev pub invariant-loop-entry : goal.invariant-loop-entry
invariant-loop-entry l = record { known : l.known ++ known_of l.rest ≡ known_of l.log }

abbrev pub decreases-loop-entry : goal.decreases-loop-entry
decreases-loop-entry l = length l.rest
