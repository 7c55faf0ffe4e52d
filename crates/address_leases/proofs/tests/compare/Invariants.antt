use Rattle.std.proofs.Common.{◌≡◌, ◌+◌, ◌^◌, ◌≤◌, length}
use Rattle.address_leases.proofs.tests.compare.Given as goal

abbrev pub invariant-fill : goal.invariant-fill
invariant-fill l =
    (length l.leases.grants + l.leases.room ≡ 100000) × (l.leases.passed ≡ 0)
    × (length l.plain.grants + l.plain.room ≡ 100000) × (l.plain.passed ≡ 0)

abbrev pub invariant-calls : goal.invariant-calls
invariant-calls l =
    (length l.leases.grants + l.leases.room ≡ 100000) × (l.leases.passed ≤ l.now)
    × (length l.plain.grants + l.plain.room ≡ 100000) × (l.plain.passed ≤ l.now) × (l.now ≤ 2 ^ 40)
