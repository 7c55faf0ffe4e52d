use Rattle.std.proofs.Common.{◌≡◌, ◌+◌, ◌-◌, ◌*◌}
use Rattle.cbor_item.specs.Item.{after_item, after_all}
use Rattle.cbor_item.proofs.item.+skip.Given as goal

abbrev pub decreases-skip_item : goal.decreases-skip_item
decreases-skip_item l = 3 * l.depth + 2

abbrev pub decreases-skip_pairs : goal.decreases-skip_pairs
decreases-skip_pairs l = 3 * l.depth + 1

abbrev pub decreases-skip_inside : goal.decreases-skip_inside
decreases-skip_inside l = 3 * l.depth

abbrev pub invariant-skip_inside-loop : goal.invariant-skip_inside-loop
invariant-skip_inside-loop l =
    after_all (after_item (l.depth - 1) l.end) (l.count - l.counter) l.rest ≡ after_all (after_item (l.depth - 1) l.end) l.count l.bytes
