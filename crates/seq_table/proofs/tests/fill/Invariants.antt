use Rattle.std.proofs.Common.{◌≡◌}
use Rattle.seq_table.proofs.tests.fill.Given as goal

abbrev pub invariant-loop : goal.invariant-loop
invariant-loop l = l.seat.table ≡ l.table
