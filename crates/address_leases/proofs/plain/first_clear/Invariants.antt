use Rattle.std.proofs.Common.{◌≡◌, ℕ, ◌<◌, ◌≤◌, slice_index_or, false, true}
use Rattle.address_leases.proofs.plain.first_clear.Given as goal

abbrev pub invariant-loop-address : goal.invariant-loop-address
invariant-loop-address l = (b : ℕ) → l.first ≤ b → b < l.address → slice_index_or l.marks b false ≡ true
