use Rattle.std.proofs.Common.{◌≡◌}
use Rattle.seq_table.proofs.tests.draw_many.Given as goal

abbrev pub invariant-loop-turn : goal.invariant-loop-turn
invariant-loop-turn l = l.seat.table ≡ l.table
