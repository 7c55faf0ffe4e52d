use Rattle.std.proofs.Common.{◌≡◌, ◌≤◌, ◌+◌, ◌++◌, length}
use Rattle.std.specs.List.{AllByRecursion}
use Rattle.journal_text.specs.Text.{Fits, IsSpellable, entries_text}
use Rattle.registrar_book.specs.Journals.{sizes_of}
use Rattle.registrar_book.proofs.press.collect_batch.Given as goal

abbrev pub invariant-loop-entry : goal.invariant-loop-entry
invariant-loop-entry l = record {
  text : l.batch.items ++ entries_text l.rest ≡ entries_text l.entries;
  fits : AllByRecursion Fits l.rest → AllByRecursion Fits l.entries;
  spellable : AllByRecursion IsSpellable l.rest;
  room : length l.batch.items + sizes_of l.rest ≤ 4096;
}

abbrev pub decreases-loop-entry : goal.decreases-loop-entry
decreases-loop-entry l = length l.rest
