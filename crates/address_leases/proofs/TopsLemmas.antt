-- The tops of all addresses and the bounds of their blocks.
use Rattle.std.proofs.Common.{◌++◌, zero, suc, slice_get, add-one, ◌≡◌, ◌≢◌, inl, inr, ℕ, ◌+◌, ◌-◌, ◌*◌, ◌/◌, ◌<◌, ◌≤◌, List, [], ◌∷◌, length, take, drop, get_or, set, Option, Some, None, Contains, All, slice_index_or, slice_range, refl, sym, ap, ◌∙◌, subst, arith}
use Rattle.std.proofs.lemmas.Bool.{cases_eq, cases_lt}
use Rattle.std.proofs.lemmas.Option.{none-some, same_Some}
use Rattle.std.proofs.lemmas.List.Elements.{Contains-push, Contains-push_cases, Contains-append_left}
use Rattle.std.proofs.lemmas.List.{get_or-set_same, get_or-set_other, get_or-drop, get_or-take, length-set, length-drop, length-take-le}
use Rattle.address_leases.specs.declared.grant.Grant.{Grant}
use Rattle.address_leases.specs.declared.top.Top.{Top}
use Rattle.address_leases.specs.Indices.{AreTops, IsBoundOf, IsTopOf, top_at}
use Rattle.address_leases.proofs.ListLemmas.{Contains-here, Contains-later, Contains-cons_cases}

-- one more grant of another address
pub top_of_other : (grants : List Grant) (passed : ℕ) (g : Grant) (a : ℕ) (top : Option Top) → a ≢ g.address
    → IsTopOf grants passed a top → IsTopOf (g ∷ grants) passed a top
top_of_other grants passed g a None other old = record {
  above = λ x has at kept. elim (Contains-cons_cases g grants x has) [
    | inl same ↦ absurd (other (sym at ∙ sym (ap (λ (y : Grant). y.address) same)))
    | inr later ↦ old.above x later at kept
  ];
  is_one = tt;
}
top_of_other grants passed g a (Some top) other old = record {
  above = λ x has at kept. elim (Contains-cons_cases g grants x has) [
    | inl same ↦ absurd (other (sym at ∙ sym (ap (λ (y : Grant). y.address) same)))
    | inr later ↦ old.above x later at kept
  ];
  is_one = λ kept. Contains-later g grants (record { until = top.until; address = a; id = top.id }) (old.is_one kept);
}

-- fewer grants, later: what holds still is kept
pub top_of_fewer : (grants fewer : List Grant) (passed later a : ℕ) (top : Option Top) → passed ≤ later
    → ((x : Grant) → Contains fewer x → Contains grants x)
    → ((x : Grant) → Contains grants x → later < x.until + 3600 → Contains fewer x)
    → IsTopOf grants passed a top → IsTopOf fewer later a top
top_of_fewer grants fewer passed later a None time from to old =
    record { above = λ x has at kept. old.above x (from x has) at (omega arith); is_one = tt }
top_of_fewer grants fewer passed later a (Some top) time from to old = record {
  above = λ x has at kept. old.above x (from x has) at (omega arith);
  is_one = λ kept. to (record { until = top.until; address = a; id = top.id }) (old.is_one (omega arith)) kept;
}

-- no grant, no top
pub top_of_none : (passed a : ℕ) → IsTopOf [] passed a None
top_of_none passed a = record { above = λ x has at kept. omega (arith, has.1); is_one = tt }

-- a write of a top, with the bound of its block made anew
pub tops_set : (tops : List (Option Top)) (bounds : List (Option ℕ)) (place : ℕ) (top : Option Top) (bound : Option ℕ)
    → AreTops tops bounds → place < 65536
    → ((a : ℕ) → a < 65536 → a / 64 ≡ place / 64 → IsBoundOf bound (slice_index_or (set tops place top) a None))
    → AreTops (set tops place top) (set bounds (place / 64) bound)
tops_set tops bounds place top bound are within block =
    let len : length tops ≡ 65536 = are.tops_len in
    let blocks : length bounds ≡ 1024 = are.bounds_len in
    record {
      tops_len = length-set tops place top ∙ len;
      bounds_len = length-set bounds (place / 64) bound ∙ blocks;
      bound = λ a below. elim (cases_eq (a / 64) (place / 64)) [
        | inl same ↦
            subst
            (λ b. IsBoundOf b (slice_index_or (set tops place top) a None))
            (sym (ap (λ k. get_or (set bounds (place / 64) bound) k None) same ∙ get_or-set_same bounds (place / 64) bound None (omega arith)))
            (block a below same)
        | inr other ↦
            let apart : a ≢ place = λ e. other (ap (λ k. k / 64) e) in
            subst
            (λ b. IsBoundOf b (slice_index_or (set tops place top) a None))
            (sym (get_or-set_other bounds (place / 64) (a / 64) bound None other))
            (subst
            (λ t. IsBoundOf (slice_index_or bounds (a / 64) None) t)
            (sym (get_or-set_other tops place a top None apart))
            (are.bound a below))
      ];
    }

-- what the bound of a block says of the tops in it
pub block_bound : (tops : List (Option Top)) (place : ℕ) (bound : Option ℕ) → length tops ≡ 65536 → place < 65536
    → All (IsBoundOf bound) (slice_range tops (place / 64 * 64) (place / 64 * 64 + 64))
    → (a : ℕ) → a < 65536 → a / 64 ≡ place / 64 → IsBoundOf bound (slice_index_or tops a None)
block_bound tops place bound len within all a below same =
    let first = place / 64 * 64 in
    let k = a - first in
    let n = first + 64 - first in
    let in_block : k < n = omega arith in
    let at : first + k ≡ a = omega arith in
    let long : length (take n (drop first tops)) ≡ n = length-take-le n (drop first tops) (omega (arith, length-drop first tops)) in
    subst
    (IsBoundOf bound)
    (get_or-take n (drop first tops) k None in_block ∙ get_or-drop first tops k None ∙ ap (λ j. get_or tops j None) at)
    (all k None (omega (arith, long)))

-- ---- no top and no bound

past_end : {X : Type 0} (xs : List (Option X)) (a : ℕ) → length xs ≤ a → get_or xs a None ≡ None
past_end [] a past = refl
past_end (x ∷ xs) zero past = absurd (omega arith)
past_end (x ∷ xs) (suc a) past = past_end xs a (omega arith)

pub none_all : {X : Type 0} (xs : List (Option X)) (n : ℕ) → length xs ≡ n → ((k : ℕ) → k < n → get_or xs k None ≡ None) → (a : ℕ)
    → get_or xs a None ≡ None
none_all xs n len none a = elim (cases_lt a n) [
  | inl within ↦ none a within
  | inr past ↦ past_end xs a (omega arith)
]

pub tops_none : (tops : List (Option Top)) (bounds : List (Option ℕ)) → length tops ≡ 65536 → length bounds ≡ 1024
    → ((a : ℕ) → get_or bounds a None ≡ None) → AreTops tops bounds
tops_none tops bounds tops_len bounds_len none = record {
  tops_len = tops_len;
  bounds_len = bounds_len;
  bound = λ a below. subst (λ b. IsBoundOf b (slice_index_or tops a None)) (sym (none (a / 64))) tt;
}

-- ---- one more of the first grants

pub take_push : {X : Type 0} (xs : List X) (n : ℕ) (x : X) → slice_get xs n ≡ Some x → take (suc n) xs ≡ take n xs ++ x ∷ []
take_push [] n x is = absurd (none-some x is)
take_push (y ∷ xs) zero x is = ap (λ z. z ∷ []) (same_Some y x is)
take_push (y ∷ xs) (suc n) x is = ap (λ l. y ∷ l) (take_push xs n x is)

-- the tops of one more of the first grants
pub top_of_next : (grants : List Grant) (n passed : ℕ) (g : Grant) (old new : List (Option Top)) (top : Top) (a : ℕ)
    → slice_get grants n ≡ Some g
    → ((b : ℕ) → IsTopOf (take n grants) passed b (top_at old b))
    → IsTopOf (g ∷ take n grants) passed g.address (Some top)
    → top_at new g.address ≡ Some top → ((b : ℕ) → b ≢ g.address → top_at new b ≡ top_at old b)
    → IsTopOf (take (n + 1) grants) passed a (top_at new a)
top_of_next grants n passed g old new top a is before is_top set others =
    let done = take n grants in
    let more : take (n + 1) grants ≡ done ++ g ∷ [] = rw add-one (take_push grants n g is) in
    let at : IsTopOf (g ∷ done) passed a (top_at new a) =
    elim (cases_eq a g.address) [
      | inl same ↦ subst (λ b. IsTopOf (g ∷ done) passed b (top_at new b)) (sym same) (subst (IsTopOf (g ∷ done) passed g.address) (sym set) is_top)
      | inr other ↦
          subst
          (IsTopOf (g ∷ done) passed a)
          (sym (others a other))
          (top_of_other done passed g a (top_at old a) other (before a))
    ] in
    subst
    (λ l. IsTopOf l passed a (top_at new a))
    (sym more)
    (top_of_fewer (g ∷ done) (done ++ g ∷ []) passed passed a (top_at new a) (omega arith)
    (λ x has. elim (Contains-push_cases done g x has) [ inl old_one ↦ Contains-later g done x old_one | inr same ↦ subst (Contains (g ∷ done)) same (Contains-here g done) ])
    (λ x has _. elim (Contains-cons_cases g done x has) [ inl same ↦ subst (Contains (done ++ g ∷ [])) same (Contains-push done g) | inr later ↦ Contains-append_left done (g ∷ []) x later ])
    at)
