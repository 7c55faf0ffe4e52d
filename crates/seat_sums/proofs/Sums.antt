-- Sums over all views, where one of them or two change.
use Rattle.std.proofs.Common.{◌≡◌, ◌≢◌, ℕ, zero, suc, ◌+◌, ◌*◌, ◌≤◌, List, [], ◌∷◌, ◌++◌, set, refl, sym, ap, arith}
use mathlib.Core.Option.{some, some-injective, some-ne-none}
use lib.ListN.{get_elem?}
use Rattle.seat_sums.specs.Counts.{total}

module _ {A : Type 0} where
  pub total_set : (f : A → ℕ) (views : List A) (id : ℕ) (v w : A) → get_elem? views id ≡ some v → total f (set views id w) + f v ≡ total f views + f w
  total_set f [] id v w at = absurd (some-ne-none v (sym at))
  total_set f (u ∷ us) zero v w at = let same = ap f (some-injective u v at) in omega arith
  total_set f (u ∷ us) (suc id) v w at = let rest = total_set f us id v w at in omega arith

  pub total_kept : (f : A → ℕ) (views : List A) (id : ℕ) (v w : A) → get_elem? views id ≡ some v → f w ≡ f v → total f (set views id w) ≡ total f views
  total_kept f views id v w at same = omega (arith, total_set f views id v w at)

  pub total-append : (f : A → ℕ) (views more : List A) → total f (views ++ more) ≡ total f views + total f more
  total-append f [] more = omega arith
  total-append f (u ∷ us) more = let rest = total-append f us more in omega arith

  pub part_of_total : (f : A → ℕ) (views : List A) (id : ℕ) (v : A) → get_elem? views id ≡ some v → f v ≤ total f views
  part_of_total f [] id v at = absurd (some-ne-none v (sym at))
  part_of_total f (u ∷ us) zero v at = let same = ap f (some-injective u v at) in omega arith
  part_of_total f (u ∷ us) (suc id) v at = let rest = part_of_total f us id v at in omega arith

  pub parts_of_total : (f : A → ℕ) (views : List A) (i j : ℕ) (v w : A) → get_elem? views i ≡ some v → get_elem? views j ≡ some w → i ≢ j → f v + f w ≤ total f views
  parts_of_total f [] i j v w at there apart = absurd (some-ne-none v (sym at))
  parts_of_total f (u ∷ us) zero zero v w at there apart = absurd (apart refl)
  parts_of_total f (u ∷ us) zero (suc j) v w at there apart = let same = ap f (some-injective u v at) in let rest = part_of_total f us j w there in omega arith
  parts_of_total f (u ∷ us) (suc i) zero v w at there apart = let same = ap f (some-injective u w there) in let rest = part_of_total f us i v at in omega arith
  parts_of_total f (u ∷ us) (suc i) (suc j) v w at there apart = let rest = parts_of_total f us i j v w at there (λ e. apart (ap suc e)) in omega arith

  -- where each view's f is at most a fixed number of times its g
  pub total-le : (k : ℕ) (f g : A → ℕ) (views : List A) → ((id : ℕ) (v : A) → get_elem? views id ≡ some v → f v ≤ k * g v) → total f views ≤ k * total g views
  total-le k f g [] each = omega arith
  total-le k f g (u ∷ us) each =
      let here = each 0 u refl in
      let rest = total-le k f g us (λ id v at. each (suc id) v at) in
      omega arith

  -- f is 0 where g is 0
  abbrev pub IsWithin : (A → ℕ) → (A → ℕ) → List A → Type 0
  IsWithin f g views = (id : ℕ) (v : A) → get_elem? views id ≡ some v → g v ≡ 0 → f v ≡ 0

  pub total-none : (f g : A → ℕ) (views : List A) → IsWithin f g views → total g views ≡ 0 → total f views ≡ 0
  total-none f g [] within none = refl
  total-none f g (u ∷ us) within none =
      let here = within 0 u refl (omega arith) in
      let rest = total-none f g us (λ id v at. within (suc id) v at) (omega arith) in
      omega arith

  -- a view that has all of g has all of f
  pub total-whole : (f g : A → ℕ) (views : List A) (id : ℕ) (v : A) → IsWithin f g views → get_elem? views id ≡ some v → total g views ≡ g v → total f views ≡ f v
  total-whole f g [] id v within at whole = absurd (some-ne-none v (sym at))
  total-whole f g (u ∷ us) zero v within at whole =
      let same_f = ap f (some-injective u v at) in
      let same_g = ap g (some-injective u v at) in
      let rest = total-none f g us (λ i w here. within (suc i) w here) (omega arith) in
      omega arith
  total-whole f g (u ∷ us) (suc id) v within at whole =
      let part = part_of_total g us id v at in
      let here = within 0 u refl (omega arith) in
      let rest = total-whole f g us id v (λ i w h. within (suc i) w h) at (omega arith) in
      omega arith

  pub total_split : (f : A → ℕ) (views : List A) (id : ℕ) (v left right : A) → get_elem? views id ≡ some v → f left + f right ≡ f v → total f (set views id left ++ right ∷ []) ≡ total f views
  total_split f views id v left right at parts = omega (arith, total_set f views id v left at, total-append f (set views id left) (right ∷ []))

  pub total_join : (f : A → ℕ) (views : List A) (id other : ℕ) (v w both spent : A) → get_elem? views id ≡ some v → get_elem? (set views id both) other ≡ some w → f both + f spent ≡ f v + f w → total f (set (set views id both) other spent) ≡ total f views
  total_join f views id other v w both spent at there parts = omega (arith, total_set f views id v both at, total_set f (set views id both) other w spent there)
