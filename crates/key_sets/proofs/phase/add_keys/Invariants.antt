use Rattle.std.proofs.Common.{◌≡◌, ◌+◌, ◌≤◌, ◌++◌, length}
use Rattle.key_sets.specs.Keys.{numbered}
use Rattle.key_sets.proofs.phase.add_keys.Given as goal

abbrev pub invariant-loop-rest : goal.invariant-loop-rest
invariant-loop-rest l = (l.keys.items ++ numbered l.epoch l.place l.rest ≡ l.fn.keys.items ++ numbered l.epoch 0 l.set)
    × (length l.keys.items + length l.rest ≡ length l.fn.keys.items + length l.set) × (l.place + length l.rest ≤ 4)

abbrev pub decreases-loop-rest : goal.decreases-loop-rest
decreases-loop-rest l = length l.rest
