use Rattle.std.proofs.Common.{◌≡◌, take}
use Rattle.key_sets.proofs.set.KeySetClone.clone.Given as goal

abbrev pub invariant-loop-key : goal.invariant-loop-key
invariant-loop-key l = l.keys.items ≡ take l.key-index l.values
