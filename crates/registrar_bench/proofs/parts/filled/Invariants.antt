use Rattle.std.proofs.Common.{◌≡◌, ◌+◌, length}
use Rattle.registrar_bench.proofs.parts.filled.Given as goal

abbrev pub invariant-fill : goal.invariant-fill
invariant-fill l = (l.leases.passed ≡ 0) × (length l.leases.grants + l.leases.room ≡ 131066)
