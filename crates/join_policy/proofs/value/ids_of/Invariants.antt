use Rattle.std.proofs.Common.{◌≡◌, ◌+◌, ◌≤◌, length}
use Rattle.toml.specs.View.{items_view}
use Rattle.join_policy.specs.Values.{ids_of}
use Rattle.join_policy.proofs.Lists.{after_some}
use Rattle.join_policy.proofs.value.ids_of.Given as goal

abbrev pub invariant-loop-first : goal.invariant-loop-first
invariant-loop-first l =
    (after_some l.ids.items (ids_of (items_view l.rest)) ≡ ids_of (items_view l.fn.values)) × (length l.ids.items + length l.rest ≤ 16)

abbrev pub decreases-loop-first : goal.decreases-loop-first
decreases-loop-first l = length l.rest
