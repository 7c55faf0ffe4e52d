use Rattle.std.proofs.Common.{◌≡◌, false}
use Rattle.registrar_bench.proofs.locks.hold.Given as goal

abbrev pub invariant-loop : goal.invariant-loop
invariant-loop g l = record { lock : l.pass.lock ≡ l.lock; ended : l.pass.has_turn ≡ false }
