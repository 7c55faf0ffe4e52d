use Rattle.std.proofs.Common.{◌≡◌, ◌+◌, ◌≤◌, length}
use Rattle.registrar_bench.proofs.parts.leases.Given as goal

abbrev pub invariant-calls : goal.invariant-calls
invariant-calls l = (length l.leases.grants + l.leases.room ≡ 131066) × (l.leases.passed ≤ l.now)
