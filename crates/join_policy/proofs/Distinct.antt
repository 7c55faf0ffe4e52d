-- Rows whose identifiers differ.
use Rattle.std.proofs.Common.{◌≡◌, ℕ, zero, suc, ◌+◌, true, false, List, [], ◌∷◌, ◌++◌, length, Option, Some, None, is_some, refl, sym, ◌∙◌, ap, arith, inl, inr, append_assoc, length-append}
use Rattle.std.specs.Prelude.{option_map, MatchOption, ◌≢◌, if◌then◌else◌}
use Rattle.std.specs.List.{All}
use Rattle.std.proofs.lemmas.Bool.{cases_Bool}
use Rattle.std.proofs.lemmas.List.Elements.{All-cons, All-nil}
use Rattle.std.proofs.lemmas.Slice.Eq.{bytes_eq-Decides}
use Rattle.edge_traits.specs.declared.names.PledgeId.{PledgeId}
use Rattle.join_policy.specs.declared.row.Row.{Row}
use Rattle.join_policy.specs.Rows.{has_id, place_of, twice_after, HasIdAt, AreDistinct}

same_id : (id : PledgeId) (row : Row) → has_id id row ≡ true → row.id ≡ id
same_id id row h = ap (λ (bytes : List ℕ). let p : PledgeId = record { 0 = bytes } in p) ((bytes_eq-Decides row.id.0 id.0).0 h)

other_id : (id : PledgeId) (row : Row) → has_id id row ≡ false → row.id ≢ id
other_id id row h = λ e. cc (sym h ∙ (bytes_eq-Decides row.id.0 id.0).1 (ap (λ (p : PledgeId). p.0) e))

own_id : (row : Row) → has_id row.id row ≡ true
own_id row = (bytes_eq-Decides row.id.0 row.id.0).1 refl

none_suc : (o : Option ℕ) → None ≡ option_map suc o → None ≡ o
none_suc None h = refl
none_suc (Some at) h = cc h

some_suc : (o : Option ℕ) (at : ℕ) → Some at ≡ option_map suc o → (k : ℕ) × (Some k ≡ o) × (at ≡ suc k)
some_suc None at h = cc h
some_suc (Some k) at h = (k, refl, cc h)

-- no row has an identifier that has no place
pub none_has : (id : PledgeId) (rows : List Row) → None ≡ place_of id rows → All (λ row. row.id ≢ id) rows
none_has id [] h = All-nil (λ (row : Row). row.id ≢ id)
none_has id (x ∷ xs) h = elim (cases_Bool (has_id id x)) [
  | inl here ↦ cc (rw here at h)
  | inr there ↦ All-cons (λ (row : Row). row.id ≢ id) x xs (other_id id x there) (none_has id xs (none_suc (place_of id xs) (rw there at h)))
]

-- the row at its place has it
pub has_there : (id : PledgeId) (rows : List Row) (at : ℕ) → Some at ≡ place_of id rows → HasIdAt id rows at
has_there id [] at h = cc h
has_there id (x ∷ xs) at h = elim (cases_Bool (has_id id x)) [
  | inl here ↦ let e : at ≡ 0 = cc (rw here at h) in rw e (ap Some (same_id id x here))
  | inr there ↦ let p = some_suc (place_of id xs) at (rw there at h) in rw p.2 (has_there id xs p.0 p.1)
]

-- ---- without one that occurs twice

-- a place after rows that don't have it
first_behind : (id : PledgeId) (before rest : List Row) → place_of id before ≡ None → place_of id (before ++ rest) ≡ option_map (λ k. length before + k) (place_of id rest)
first_behind id [] rest h = same (place_of id rest)
  where
    same : (o : Option ℕ) → o ≡ option_map (λ k. 0 + k) o
    same None = refl
    same (Some k) = ap Some (let e : k ≡ 0 + k = omega arith in e)
first_behind id (x ∷ xs) rest h = elim (cases_Bool (has_id id x)) [
  | inl here ↦ cc (rw here at h)
  | inr there ↦ rw there (ap (option_map suc) (first_behind id xs rest (sym (none_suc (place_of id xs) (sym (rw there at h))))) ∙ twice_mapped (place_of id rest))
]
  where
    twice_mapped : (o : Option ℕ) → option_map suc (option_map (λ k. length xs + k) o) ≡ option_map (λ k. suc (length xs) + k) o
    twice_mapped None = refl
    twice_mapped (Some k) = ap Some (let e : suc (length xs + k) ≡ suc (length xs) + k = omega arith in e)

not_before : (row : Row) (o : Option ℕ) (rest : Option PledgeId) → (if is_some o then Some row.id else rest) ≡ None → (o ≡ None) × (rest ≡ None)
not_before row None rest h = (refl, h)
not_before row (Some at) rest h = cc h

-- each row's place is where it is
placed : (before rest : List Row) → twice_after before rest ≡ None → (id : PledgeId) (i : ℕ) → HasIdAt id rest i → place_of id (before ++ rest) ≡ Some (length before + i)
placed before [] h id i has = cc has
placed before (row ∷ rest) h id zero has =
    let parts = not_before row (place_of row.id before) (twice_after (before ++ row ∷ []) rest) h in
    let same : row.id ≡ id = cc has in
    rw (← same) (first_behind row.id before (row ∷ rest) parts.0 ∙ rw (own_id row) refl)
placed before (row ∷ rest) h id (suc i) has =
    let parts = not_before row (place_of row.id before) (twice_after (before ++ row ∷ []) rest) h in
    let ih = placed (before ++ row ∷ []) rest parts.1 id i has in
    let size : length (before ++ row ∷ []) + i ≡ length before + suc i = omega (arith, length-append before (row ∷ [])) in
    ap (place_of id) (sym (append_assoc before (row ∷ []) rest)) ∙ ih ∙ ap Some size

place_is : (a b : ℕ) → Some a ≡ Some b → a ≡ b
place_is a b e = cc e

pub distinct : (rows : List Row) → twice_after [] rows ≡ None → AreDistinct rows
distinct rows h = λ id i j at_i at_j.
    let e = place_is (0 + i) (0 + j) (sym (placed [] rows h id i at_i) ∙ placed [] rows h id j at_j) in
    omega (arith, e)

-- what a place, or none, says
pub cases_of : (id : PledgeId) (rows : List Row) (o : Option ℕ) → o ≡ place_of id rows → MatchOption o (All (λ row. row.id ≢ id) rows) (HasIdAt id rows)
cases_of id rows None h = none_has id rows h
cases_of id rows (Some at) h = has_there id rows at h
