use Rattle.std.proofs.Common.{◌≡◌, ◌-◌, ◌≤◌, [], length}
use Rattle.cbor_cojp.specs.Key.{keys_at}
use Rattle.cbor_cojp.proofs.key.read_keys.Given as goal

abbrev pub invariant-loop-left : goal.invariant-loop-left
invariant-loop-left l =
    (keys_at (8 - length l.keys.items) l.left l.keys.items l.reader.end l.reader.left ≡ keys_at 8 l.count [] l.fn.reader.end l.fn.reader.left)
    × (l.reader.end ≡ l.fn.reader.end) × (length l.keys.items ≤ 8)

abbrev pub decreases-loop-left : goal.decreases-loop-left
decreases-loop-left l = 8 - length l.keys.items
