use Rattle.std.proofs.Common.{◌≡◌, ◌+◌, ◌≤◌, length}
use Rattle.toml.specs.View.{items_view}
use Rattle.join_policy.specs.Reading.{rows_at}
use Rattle.join_policy.proofs.Lists.{after_rows}
use Rattle.join_policy.proofs.row.read_rows.Given as goal

abbrev pub invariant-loop-first : goal.invariant-loop-first
invariant-loop-first l =
    (after_rows l.rows.items (rows_at (length l.rows.items + 1) (items_view l.rest)) ≡ rows_at 1 (items_view l.fn.values))
    × (length l.rows.items + length l.rest ≤ 16384)

abbrev pub decreases-loop-first : goal.decreases-loop-first
decreases-loop-first l = length l.rest
