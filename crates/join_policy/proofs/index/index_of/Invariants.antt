use Rattle.std.proofs.Common.{◌≡◌, [], take, drop}
use Rattle.join_policy.specs.Index.{IsIndexOf}
use Rattle.join_policy.specs.Rows.{twice_after}
use Rattle.join_policy.proofs.index.index_of.Given as goal

abbrev pub invariant-loop-place : goal.invariant-loop-place
invariant-loop-place l =
    IsIndexOf l.index (take l.place l.rows) × (twice_after (take l.place l.rows) (drop l.place l.rows) ≡ twice_after [] l.rows)
