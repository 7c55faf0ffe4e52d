use Rattle.std.proofs.Common.{◌≡◌, ◌≤◌, ◌+◌, ◌*◌, [], length}
use Rattle.std.specs.Prelude.{IsTrue}
use Rattle.std.specs.List.{AllByRecursion}
use Rattle.journal_text.specs.Text.{IsSpellable}
use Rattle.journal_store.specs.Store.{disk_of, pending_of, reach_of}
use Rattle.registrar_book.specs.Journals.{AreSmall}
use Rattle.registrar_book.proofs.Batches.{ArePut}
use Rattle.registrar_book.proofs.press.Press.put_all.Given as goal

abbrev pub invariant-loop-rest : goal.invariant-loop-rest
invariant-loop-rest g l = record {
  put : ArePut g.D.Disk.may_leave g.D.Disk.moment g.D.Disk.left_since (IsTrue (g.D.Disk.tells (disk_of l.initial.self.journal))) l.initial.self.journal l.self.journal l.entries l.rest;
  pending : pending_of l.self.journal ≡ [];
  reach : reach_of l.self.journal + 4101 * length l.rest ≤ reach_of l.initial.self.journal + 4101 * length l.entries;
  counted : g.D.Disk.fault_count (disk_of l.self.journal) ≡ g.D.Disk.fault_count (disk_of l.initial.self.journal);
  tells : g.D.Disk.tells (disk_of l.self.journal) ≡ g.D.Disk.tells (disk_of l.initial.self.journal);
  spellable : AllByRecursion IsSpellable l.rest;
  small : AreSmall l.rest;
}

abbrev pub decreases-loop-rest : goal.decreases-loop-rest
decreases-loop-rest g l = length l.rest
