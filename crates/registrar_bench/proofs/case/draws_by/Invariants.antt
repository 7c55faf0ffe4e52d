use Rattle.std.proofs.Common.{◌≡◌}
use Rattle.registrar_bench.proofs.case.draws_by.Given as goal

abbrev pub invariant-loop : goal.invariant-loop
invariant-loop l = l.seat.table ≡ l.table
