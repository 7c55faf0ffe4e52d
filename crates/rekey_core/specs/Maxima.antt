-- A tree of maxima over places in order: the root is at 1, the children of `k` are at `2 k` and
-- `2 k + 1`, and the places are the leaves.
use Rattle.std.specs.Prelude.{◌≡◌, ℕ, ◌+◌, ◌<◌, ◌≤◌, ◌^◌, List, length, get_or, max}

-- the node has the greater of its children
abbrev pub IsJoint : List ℕ → ℕ → Type 0
IsJoint tree k = get_or tree k 0 ≡ max (get_or tree (k + k) 0) (get_or tree (k + k + 1) 0)

-- each node above the leaves has the greater of its children
pub record IsTree (leaves : ℕ) (tree : List ℕ) : Type 0 where
  pub nodes : length tree ≡ leaves + leaves
  pub joint : (k : ℕ) → 1 ≤ k → k < leaves → IsJoint tree k

-- the tree has this many levels above its leaves
pub record IsTreeOf (levels leaves : ℕ) (tree : List ℕ) : Type 0 where
  pub power : leaves ≡ 2 ^ levels
  pub joints : IsTree leaves tree

-- the node is the first of its level whose leaves have one that is greater than a number
pub record IsFirstOver (tree : List ℕ) (level now node : ℕ) : Type 0 where
  pub from : 2 ^ level ≤ node
  pub below : node < 2 ^ level + 2 ^ level
  pub over : now < get_or tree node 0
  pub none_before : (k : ℕ) → 2 ^ level ≤ k → k < node → get_or tree k 0 ≤ now

-- the place is the first whose number is greater
pub record IsFirstPlace (ends : List ℕ) (now place : ℕ) : Type 0 where
  pub inside : place < length ends
  pub over : now < get_or ends place 0
  pub none_before : (k : ℕ) → k < place → get_or ends k 0 ≤ now
