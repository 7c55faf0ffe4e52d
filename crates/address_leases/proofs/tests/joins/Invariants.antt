use Rattle.std.proofs.Common.{◌≡◌, ◌+◌, length}
use Rattle.address_leases.proofs.tests.joins.Given as goal

abbrev pub invariant-cases : goal.invariant-cases
invariant-cases l = (length l.leases.grants + l.leases.room ≡ 100000) × (l.leases.passed ≡ 0)
