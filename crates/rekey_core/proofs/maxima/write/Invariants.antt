use Rattle.std.proofs.Common.{◌≡◌, ◌≤◌, ◌<◌, ◌+◌, ℕ, length, drop, set}
use Rattle.rekey_core.specs.Maxima.{IsJoint}
use Rattle.rekey_core.proofs.maxima.write.Given as goal

abbrev pub invariant-loop-at : goal.invariant-loop-at
invariant-loop-at l = record {
  nodes : length l.tree.items ≡ l.leaves + l.leaves;
  low : 1 ≤ l.at;
  high : l.at < l.leaves + l.leaves;
  joint : (k : ℕ) → 1 ≤ k → k < l.leaves → (k + k ≡ l.at → ⊥) → (k + k + 1 ≡ l.at → ⊥) → IsJoint l.tree.items k;
  set : drop l.leaves l.tree.items ≡ set (drop l.leaves l.fn.tree.items) l.place l.number;
}

abbrev pub decreases-loop-at : goal.decreases-loop-at
decreases-loop-at l = l.at
