-- What an index finds, and the index with one item more.
use Rattle.std.proofs.Common.{◌≡◌, ◌⊎◌, inl, inr, ℕ, ◌<◌, true, false, List, [], ◌∷◌, ◌++◌, length, get_or, Option, Some, None, refl, sym, ap, ◌∙◌, subst, arith, length-append}
use Rattle.std.specs.Prelude.{Contains, IfSome, IfNone}
use Rattle.std.specs.Map.{lookup}
use Rattle.std.specs.Str.{bytes_eq}
use Rattle.std.specs.Bool.{Decides}
use Rattle.std.proofs.Math.Seq.{get_or-append_seam}
use Rattle.std.proofs.lemmas.List.{get_or_append_left}
use Rattle.std.proofs.lemmas.List.Elements.{Contains-push_cases}
use Rattle.std.proofs.lemmas.Slice.Eq.{bytes_eq-Decides}
use Rattle.registrar_book.specs.Index.{IsIndexOf}

some_same : (a b : ℕ) → Some a ≡ Some b → a ≡ b
some_same a b is = cc (is)

-- two keys are the same or not
key_cases : (a b : List ℕ) → (a ≡ b) ⊎ (bytes_eq a b ≡ false)
key_cases a b = (elim (bytes_eq a b) as (λ x. bytes_eq a b ≡ x → Decides x (a ≡ b) → (a ≡ b) ⊎ (bytes_eq a b ≡ false)) [
  | true ↦ λ is d. inl (d.0 refl)
  | false ↦ λ is d. inr is
]) refl (bytes_eq-Decides a b)

module _ {X : Type 0} (key : X → List ℕ) where
  -- the empty index is of the empty list
  pub IsIndexOf-none : IsIndexOf key [] []
  IsIndexOf-none = record {
    each = λ k i is. cc (is);
    every = λ x has. absurd (omega (arith, has.1));
  }

  -- what is found is the place of an item with the key
  pub index_found : (items : List X) (places : List (List ℕ × ℕ)) (k : List ℕ) (r : Option ℕ) → IsIndexOf key items places → r ≡ lookup (bytes_eq k) places
      → IfSome r (λ i. (i < length items) × ((d : X) → key (get_or items i d) ≡ k))
  index_found items places k (Some i) index is = index.each k i (sym is)
  index_found items places k None index is = tt

  -- where nothing is found no item has the key
  pub index_absent : (items : List X) (places : List (List ℕ × ℕ)) (k : List ℕ) (r : Option ℕ) → IsIndexOf key items places → r ≡ lookup (bytes_eq k) places
      → IfNone r ((x : X) → Contains items x → key x ≡ k → ⊥)
  index_absent items places k (Some i) index is = tt
  index_absent items places k None index is = λ x has same.
      let there = index.every x has in
      cc (is, subst (λ (q : List ℕ). lookup (bytes_eq q) places ≡ Some there.0) same there.1)

  -- the index with the place of one item more
  pub IsIndexOf-push : (items : List X) (places more : List (List ℕ × ℕ)) (x : X) → IsIndexOf key items places
      → lookup (bytes_eq (key x)) more ≡ Some (length items)
      → ((q : List ℕ) → bytes_eq (key x) q ≡ false → lookup (bytes_eq q) more ≡ lookup (bytes_eq q) places)
      → IsIndexOf key (items ++ x ∷ []) more
  IsIndexOf-push items places more x index set others = record {
    each = λ k i is. elim (key_cases (key x) k) [
      | inl same ↦
          let i_is : i ≡ length items = some_same i (length items) (sym is ∙ subst (λ (q : List ℕ). lookup (bytes_eq q) more ≡ Some (length items)) same set) in (
            omega (arith, i_is, length-append items (x ∷ [])),
            λ d. ap (λ (n : ℕ). key (get_or (items ++ x ∷ []) n d)) i_is ∙ ap key (get_or-append_seam items x [] d) ∙ same,
          )
      | inr other ↦
          let old = index.each k i (sym (others k other) ∙ is) in
          let below = old.0 in (
            omega (arith, below, length-append items (x ∷ [])),
            λ d. ap key (get_or_append_left items (x ∷ []) d i below) ∙ old.1 d,
          )
    ];
    every = λ y has. elim (Contains-push_cases items x y has) [
      | inl old ↦ elim (key_cases (key x) (key y)) [
        | inl same ↦ (length items, subst (λ (q : List ℕ). lookup (bytes_eq q) more ≡ Some (length items)) same set)
        | inr other ↦
            let there = index.every y old in
            (there.0, others (key y) other ∙ there.1)
      ]
      | inr same ↦ (length items, subst (λ (z : X). lookup (bytes_eq (key z)) more ≡ Some (length items)) same set)
    ];
  }
