use Rattle.std.proofs.Common.{◌≡◌, ◌+◌, length}
use Rattle.registrar_state.specs.Restore.{AreRowsFor}
use Rattle.registrar_state.proofs.restore.contexts_of.Given as goal

abbrev pub invariant-loop-at : goal.invariant-loop-at
invariant-loop-at l = record {
  rows : AreRowsFor l.contexts l.table.rows;
  count : length l.table.rows ≡ l.at;
  room : l.table.room + length l.table.rows ≡ l.most;
}
