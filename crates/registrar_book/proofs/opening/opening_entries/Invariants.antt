use Rattle.std.proofs.Common.{◌≡◌, ◌++◌, ◌+◌, length, drop}
use Rattle.registrar_book.specs.Known.{enrolls, first_entries}
use Rattle.registrar_book.proofs.opening.opening_entries.Given as goal

abbrev pub invariant-loop-row : goal.invariant-loop-row
invariant-loop-row l = record {
  entries : l.entries.items ++ enrolls l.context l.rest ≡ first_entries l.fn.settings ++ enrolls l.first (drop l.first l.known);
  context : l.context + length l.rest ≡ length l.known;
}

abbrev pub decreases-loop-row : goal.decreases-loop-row
decreases-loop-row l = length l.rest
