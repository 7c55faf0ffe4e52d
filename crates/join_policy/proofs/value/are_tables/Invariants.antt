use Rattle.std.proofs.Common.{◌≡◌, length}
use Rattle.toml.specs.View.{items_view}
use Rattle.join_policy.specs.Values.{are_tables}
use Rattle.join_policy.proofs.value.are_tables.Given as goal

abbrev pub invariant-loop-first : goal.invariant-loop-first
invariant-loop-first l = are_tables (items_view l.rest) ≡ are_tables (items_view l.fn.values)

abbrev pub decreases-loop-first : goal.decreases-loop-first
decreases-loop-first l = length l.rest
