use Rattle.std.proofs.Common.{◌≡◌, ℕ, ◌-◌, ◌≤◌, length, None, slice_index_or}
use Rattle.address_leases.proofs.tops.no_bounds.Given as goal

abbrev pub invariant-loop-bounds : goal.invariant-loop-bounds
invariant-loop-bounds l = (length l.bounds.items ≤ 1024) × ((a : ℕ) → slice_index_or l.bounds.items a None ≡ None)

abbrev pub decreases-loop-bounds : goal.decreases-loop-bounds
decreases-loop-bounds l = 1024 - length l.bounds.items
