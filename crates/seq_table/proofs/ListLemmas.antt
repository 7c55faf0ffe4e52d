-- The numbers of a context, and how often a number occurs in a list.
use Rattle.std.proofs.Common.{◌≡◌, ◌≢◌, ℕ, get_or, set, below_more, get_or-set_other, get_or-set_same, zero, suc, ◌+◌, ◌<◌, ◌≤◌, Bool, true, false, cond, List, [], ◌∷◌, ◌++◌, map, filter, length, refl, sym, ap, ◌∙◌, arith}
use Rattle.std.specs.Prelude.{◌==◌}
use Rattle.std.proofs.lemmas.List.{map-append, append-nil}
use Rattle.std.proofs.lemmas.List.Elements.{filter-append}
use Rattle.std.proofs.lemmas.Bool.{eq-eqb, ne_eqb}
use mathlib.Core.Option.{some, some-injective, some-ne-none}
use lib.ListN.{get_elem?}
use Rattle.seq_table.specs.declared.rule.Drawn.{Drawn}
use Rattle.seq_table.specs.Views.{numbers_of, drawn_from}

pub numbers_of-append : (context : ℕ) (xs ys : List Drawn) → numbers_of context (xs ++ ys) ≡ numbers_of context xs ++ numbers_of context ys
numbers_of-append context xs ys =
    ap (map (λ (d : Drawn). d.number)) (filter-append (λ (d : Drawn). d.context == context) xs ys)
    ∙ map-append (λ (d : Drawn). d.number) (filter (λ (d : Drawn). d.context == context) xs) (filter (λ (d : Drawn). d.context == context) ys)

pub length-numbers_of : (context : ℕ) (xs : List Drawn) → length (numbers_of context xs) ≤ length xs
length-numbers_of context [] = omega arith
length-numbers_of context (d ∷ xs) =
    let rest = length-numbers_of context xs in
    let P : Bool → Type 0 = λ b. length (map (λ (e : Drawn). e.number) (cond b (d ∷ filter (λ (e : Drawn). e.context == context) xs) (filter (λ (e : Drawn). e.context == context) xs))) ≤ length (d ∷ xs) in
    elim (d.context == context) as P [ true ↦ omega arith | false ↦ omega arith ]

-- a drawn number joins those of its context, and no others
pub number_joins : (context n : ℕ) (xs : List Drawn) → numbers_of context (xs ++ drawn_from context n ∷ []) ≡ numbers_of context xs ++ n ∷ []
number_joins context n xs =
    let one : numbers_of context (drawn_from context n ∷ []) ≡ n ∷ [] = ap (λ b. map (λ (d : Drawn). d.number) (cond b (drawn_from context n ∷ []) [])) (eq-eqb context context refl) in
    numbers_of-append context xs (drawn_from context n ∷ []) ∙ ap (λ l. numbers_of context xs ++ l) one

pub number_elsewhere : (context other n : ℕ) (xs : List Drawn) → other ≢ context → numbers_of context (xs ++ drawn_from other n ∷ []) ≡ numbers_of context xs
number_elsewhere context other n xs apart =
    let none : numbers_of context (drawn_from other n ∷ []) ≡ [] = ap (λ b. map (λ (d : Drawn). d.number) (cond b (drawn_from other n ∷ []) [])) (ne_eqb other context apart) in
    numbers_of-append context xs (drawn_from other n ∷ []) ∙ ap (λ l. numbers_of context xs ++ l) none ∙ append-nil (numbers_of context xs)

index_at : (xs : List ℕ) (i x : ℕ) → get_elem? xs i ≡ some x → x ≡ get_or xs i 0
index_at [] i x at = absurd (some-ne-none x (sym at))
index_at (y ∷ ys) zero x at = sym (some-injective y x at)
index_at (y ∷ ys) (suc i) x at = index_at ys i x at

-- one word more is copied
pub copied_more : (from to : List ℕ) (i x : ℕ) → i < length to → get_elem? from i ≡ some x → ((k : ℕ) → k < i → get_or to k 0 ≡ get_or from k 0) → (k : ℕ) → k < i + 1 → get_or (set to i x) k 0 ≡ get_or from k 0
copied_more from to i x inside at below =
    below_more (λ k. get_or (set to i x) k 0 ≡ get_or from k 0) i
    (λ k h. get_or-set_other to i k x 0 (λ e. omega arith) ∙ below k h)
    (get_or-set_same to i x 0 inside ∙ index_at from i x at)
