use Rattle.std.proofs.Common.{◌≡◌, ℕ, ◌-◌, ◌≤◌, length, None, slice_index_or}
use Rattle.address_leases.proofs.tops.no_tops.Given as goal

abbrev pub invariant-loop-tops : goal.invariant-loop-tops
invariant-loop-tops l = (length l.tops.items ≤ 65536) × ((a : ℕ) → slice_index_or l.tops.items a None ≡ None)

abbrev pub decreases-loop-tops : goal.decreases-loop-tops
decreases-loop-tops l = 65536 - length l.tops.items
