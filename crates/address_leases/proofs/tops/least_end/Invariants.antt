use Rattle.std.proofs.Common.{ℕ, ◌<◌, Option, Some, slice_index_or}
use Rattle.address_leases.specs.declared.top.Top.{Top}
use Rattle.address_leases.specs.Indices.{IsBoundOf}
use Rattle.address_leases.proofs.tops.least_end.Given as goal

abbrev pub invariant-loop-top : goal.invariant-loop-top
invariant-loop-top l = (k : ℕ) (d : Option Top) → k < l.top-index → IsBoundOf (Some l.least) (slice_index_or l.tops k d)
