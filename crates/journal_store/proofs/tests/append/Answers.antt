-- The bytes are entries, so what `append` says of each batch is said of this one.
use Rattle.std.proofs.Common.{◌≡◌, ◌≤◌, ◌++◌, ℕ, List, length, refl, ap, arith}
use Rattle.std.specs.List.{AllByRecursion}
use Rattle.journal_text.specs.declared.entry.Entry.{Entry}
use Rattle.journal_text.specs.Text.{Fits, entries_text}
use Rattle.journal_store.specs.Area.{IsBatch}
use Rattle.journal_store.proofs.tests.append.Goals as goal

given : (entries : List Entry) (batch : List ℕ) → 1 ≤ length batch → length batch ≤ 4096 → AllByRecursion Fits entries → batch ≡ entries_text entries
    → (entries : List Entry) × IsBatch entries × (batch ≡ entries_text entries)
given entries batch some most fit text = (
  entries,
  record { some = omega (arith, ap length text); most = omega (arith, ap length text); fit = fit },
  text,
)

pub returns-in-Done-clause-stands : goal.returns-in-Done-clause-stands
returns-in-Done-clause-stands c e =
    let was = c.requires.stands in
    let read = c.in_ok-read_entries.ensures.read in
    let given = given read.0 c.args.batch.now c.requires.some c.requires.most read.1 read.2 in
    (was.0, was.1 ++ given.0, c.in-Done.ensures.done refl refl was.0 was.1 given.0 was.2 given.1 given.2)

pub returns-clause-pending : goal.returns-clause-pending
returns-clause-pending c pending =
    let was = c.requires.stands in
    let read = c.in_ok-read_entries.ensures.read in
    let given = given read.0 c.args.batch.now c.requires.some c.requires.most read.1 read.2 in
    (was.0, was.1, given.0, c.in-Failed.ensures.failed refl refl was.0 was.1 given.0 was.2 given.1 given.2)
