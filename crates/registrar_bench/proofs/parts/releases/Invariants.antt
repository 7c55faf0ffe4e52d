use Rattle.std.proofs.Common.{◌≡◌, ◌+◌, length}
use Rattle.registrar_bench.proofs.parts.releases.Given as goal

abbrev pub invariant-calls : goal.invariant-calls
invariant-calls l = length l.leases.grants + l.leases.room ≡ 131066
