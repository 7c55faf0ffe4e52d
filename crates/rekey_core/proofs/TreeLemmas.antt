-- A tree of maxima: what is below a node, and the step from one level to the next.
use Rattle.std.proofs.Common.{add-one, ◌≡◌, ◌⊎◌, inl, inr, ℕ, zero, suc, ◌+◌, ◌<◌, ◌≤◌, ◌^◌, List, length, get_or, drop, refl, ap, ◌∙◌, arith}
use Rattle.std.proofs.Math.Nat.{le-max_left, le-max_right, pow-succ'}
use Rattle.std.proofs.Math.Pow.{pow_mono}
use Rattle.std.proofs.lemmas.Bool.{cases_eq, cases_lt}
use Rattle.std.proofs.lemmas.List.{get_or-drop, get_or_past, get_or_default}
use Rattle.rekey_core.specs.Maxima.{IsJoint, IsTree, IsTreeOf, IsFirstOver}

-- each number is twice another, or one more than that
halves : (k : ℕ) → (j : ℕ) × ((j + j ≡ k) ⊎ (j + j + 1 ≡ k))
halves zero = (0, inl refl)
halves (suc k) =
    let (j, half) = halves k in
    elim half [
      | inl even ↦ (j, inr (omega (arith, even)))
      | inr odd ↦ (j + 1, inl (omega (arith, odd)))
    ]

-- the number of a child isn't above its parent's
child_within : (tree : List ℕ) (j k : ℕ) → IsJoint tree j → (j + j ≡ k) ⊎ (j + j + 1 ≡ k) → get_or tree k 0 ≤ get_or tree j 0
child_within tree j k joint (inl even) =
    let at = ap (λ (n : ℕ). get_or tree n 0) even in
    let most = le-max_left (get_or tree (j + j) 0) (get_or tree (j + j + 1) 0) in
    omega (arith, at, most, joint)
child_within tree j k joint (inr odd) =
    let at = ap (λ (n : ℕ). get_or tree n 0) odd in
    let most = le-max_right (get_or tree (j + j) 0) (get_or tree (j + j + 1) 0) in
    omega (arith, at, most, joint)

-- no number is above the root's
under_root : (fuel leaves : ℕ) (tree : List ℕ) (m : ℕ) → IsTree leaves tree → m ≤ fuel → 1 ≤ m → m < leaves + leaves
    → get_or tree m 0 ≤ get_or tree 1 0
under_root zero leaves tree m is fits some inside = absurd (omega (arith, fits, some))
under_root (suc fuel) leaves tree m is fits some inside = elim (cases_eq m 1) [
  | inl one ↦ let at = ap (λ (n : ℕ). get_or tree n 0) one in omega (arith, at)
  | inr more ↦ let (j, half) = halves m in elim half [
    | inl even ↦
        let within = child_within tree j m (is.joint j (omega (arith, even, some, more)) (omega (arith, even, inside))) (inl even) in
        let above = under_root fuel leaves tree j is (omega (arith, even, fits, some)) (omega (arith, even, some)) (omega (arith, even, inside)) in
        omega (arith, within, above)
    | inr odd ↦
        let within = child_within tree j m (is.joint j (omega (arith, odd, some, more)) (omega (arith, odd, inside))) (inr odd) in
        let above = under_root fuel leaves tree j is (omega (arith, odd, fits)) (omega (arith, odd, some, more)) (omega (arith, odd, inside)) in
        omega (arith, within, above)
  ]
]

-- where the root's number isn't above another, none is
pub none_over : (levels leaves : ℕ) (tree : List ℕ) (now : ℕ) → IsTreeOf levels leaves tree → get_or tree 1 0 ≤ now
    → (k : ℕ) → get_or (drop leaves tree) k 0 ≤ now
none_over levels leaves tree now is root k =
    let at : get_or (drop leaves tree) k 0 ≡ get_or tree (leaves + k) 0 = get_or-drop leaves tree k 0 in
    let power = is.power in
    let some : 1 ≤ leaves = let least = pow_mono {i = 0} {j = levels} (omega arith) in omega (arith, least, power) in
    elim (cases_lt k leaves) [
      | inl inside ↦
          let under = under_root (leaves + k) leaves tree (leaves + k) is.joints (omega arith) (omega (arith, some)) (omega (arith, inside)) in
          omega (arith, at, under, root)
      | inr past ↦
          let nodes = is.joints.nodes in
          let zero_there = get_or_past tree (leaves + k) 0 (omega (arith, nodes, past)) in
          omega (arith, at, zero_there)
    ]

-- the root's number as code reads it
pub root_read : (levels leaves : ℕ) (tree : List ℕ) (x : ℕ) → IsTreeOf levels leaves tree → x ≡ get_or tree 1 x → x ≡ get_or tree 1 0
root_read levels leaves tree x is at =
    let power = is.power in
    let nodes = is.joints.nodes in
    let some : 1 ≤ leaves = let least = pow_mono {i = 0} {j = levels} (omega arith) in omega (arith, least, power) in
    at ∙ get_or_default tree 1 x 0 (omega (arith, nodes, some))

-- the children of a node above the leaves are nodes
pub children_inside : (levels leaves level node : ℕ) (tree : List ℕ) → IsTreeOf levels leaves tree → level < levels
    → node < 2 ^ level + 2 ^ level → (node < leaves) × (node + node + 1 < length tree)
children_inside levels leaves level node tree is above below =
    let double = pow-succ' 2 level in
    let most = pow_mono {i = suc level} {j = levels} (omega (arith, above)) in
    let power = is.power in
    let nodes = is.joints.nodes in
    (omega (arith, double, most, power, below), omega (arith, double, most, power, below, nodes))

-- one level down
pub next_level : (levels leaves level now node child : ℕ) (tree : List ℕ) → IsTreeOf levels leaves tree → level < levels
    → IsFirstOver tree level now node → (child ≡ node + node) ⊎ (child ≡ node + node + 1)
    → (IsJoint tree node → now < get_or tree node 0 → now < get_or tree child 0)
    → (child ≡ node + node + 1 → get_or tree (node + node) 0 ≤ now) → IsFirstOver tree (level + 1) now child
next_level levels leaves level now node child tree is above first either over before =
    let inside = children_inside levels leaves level node tree is above first.below in
    let some : 1 ≤ 2 ^ level = pow_mono {i = 0} {j = level} (omega arith) in
    let double : 2 ^ (level + 1) ≡ 2 ^ level + 2 ^ level = let e = pow-succ' 2 level in let n = ap (λ (n : ℕ). 2 ^ n) (add-one level) in omega (arith, e, n) in
    let from = first.from in
    let below = first.below in
    let low : node + node ≤ child = elim either [ inl left ↦ omega (arith, left) | inr right ↦ omega (arith, right) ] in
    let high : child ≤ node + node + 1 = elim either [ inl left ↦ omega (arith, left) | inr right ↦ omega (arith, right) ] in
    record {
      from = omega (arith, from, double, low);
      below = omega (arith, below, double, high);
      over = over (is.joints.joint node (omega (arith, some, from)) inside.0) first.over;
      none_before = λ k least small. let (j, half) = halves k in elim half [
        | inl even ↦ elim (cases_lt j node) [
          | inl earlier ↦
              let within = child_within tree j k
              (is.joints.joint j (omega (arith, even, least, double, some)) (omega (arith, earlier, inside.0))) (inl even) in
              let none = first.none_before j (omega (arith, even, least, double)) earlier in
              omega (arith, within, none)
          | inr same ↦
              let at = ap (λ (n : ℕ). get_or tree n 0) (let e : k ≡ node + node = omega (arith, even, same, small, high) in e) in
              let none = before (omega (arith, even, same, small, high)) in
              omega (arith, at, none)
        ]
        | inr odd ↦
            let earlier : j < node = omega (arith, odd, small, high) in
            let within = child_within tree j k
            (is.joints.joint j (omega (arith, odd, least, double, some)) (omega (arith, earlier, inside.0))) (inr odd) in
            let none = first.none_before j (omega (arith, odd, least, double)) earlier in
            omega (arith, within, none)
      ];
    }
