-- Rows and their places, and the index that has them.
use Rattle.std.proofs.Common.{◌≡◌, ℕ, zero, suc, ◌<◌, Bool, true, false, cond, List, [], ◌∷◌, ◌++◌, length, nat_cmp, Ordering, Less, Equal, Greater, Option, Some, None, refl, sym, ◌∙◌, ap, arith, inl, inr}
use Rattle.std.specs.Prelude.{bytes_eq, option_map, slice_get, if◌then◌else◌}
use Rattle.std.specs.BTreeMap.{BTreeMap, get, Updates}
use Rattle.std.specs.Cmp.Lexicographic.{slice_cmp}
use Rattle.std.specs.Ordering.{is_eq}
use Rattle.std.proofs.lemmas.Bool.{cases_Bool}
use Rattle.std.proofs.lemmas.Cmp.{nat_list_cmp_total, tied_itself}
use Rattle.std.proofs.lemmas.Map.Lookups.{exact_bytes}
use Rattle.std.proofs.lemmas.Slice.Eq.{bytes_eq-Decides}
use Rattle.edge_traits.specs.declared.names.PledgeId.{PledgeId}
use Rattle.join_policy.specs.declared.row.Row.{Row}
use Rattle.join_policy.specs.Index.{IsIndexOf}
use Rattle.join_policy.specs.Rows.{has_id, row_of, place_of, twice_after}

-- ---- what the index compares

abbrev key_cmp : List ℕ → List ℕ → Ordering
key_cmp = slice_cmp nat_cmp

is_eq_true : (o : Ordering) → is_eq o ≡ true → o ≡ Equal
is_eq_true Less h = cc h
is_eq_true Equal h = refl
is_eq_true Greater h = cc h

same_key_by : (a b : List ℕ) (r : Bool) → r ≡ bytes_eq a b → is_eq (key_cmp a b) ≡ r
same_key_by a b true is =
    let e : a ≡ b = (bytes_eq-Decides a b).0 (sym is) in
    rw (e, tied_itself nat_list_cmp_total b) refl
same_key_by a b false is = elim (cases_Bool (is_eq (key_cmp a b))) [
  | inl tied ↦
      let e = (bytes_eq-Decides a b).1 (exact_bytes a b (is_eq_true (key_cmp a b) tied)) in
      cc (is ∙ e)
  | inr other ↦ other
]

-- the index finds a key where the bytes are the same
pub same_key : (a b : List ℕ) → is_eq (key_cmp a b) ≡ bytes_eq a b
same_key a b = same_key_by a b (bytes_eq a b) refl

-- ---- places

-- this place, or else the next one where the last row is meant
abbrev or_last : Option ℕ → Bool → ℕ → Option ℕ
or_last (Some at) last n = Some at
or_last None last n = if last then Some n else None

or_last-suc : (o : Option ℕ) (last : Bool) (n : ℕ) → option_map suc (or_last o last n) ≡ or_last (option_map suc o) last (suc n)
or_last-suc (Some at) last n = refl
or_last-suc None true n = refl
or_last-suc None false n = refl

or_last-here : (here : Bool) (o : Option ℕ) (last : Bool) (n : ℕ)
    → (if here then Some 0 else option_map suc (or_last o last n)) ≡ or_last (if here then Some 0 else option_map suc o) last (suc n)
or_last-here true o last n = refl
or_last-here false o last n = or_last-suc o last n

-- the place of a row, with one row more
place_of-push : (id : PledgeId) (rows : List Row) (row : Row) → place_of id (rows ++ row ∷ []) ≡ or_last (place_of id rows) (has_id id row) (length rows)
place_of-push id [] row = refl
place_of-push id (x ∷ xs) row =
    ap (λ (o : Option ℕ). if has_id id x then Some 0 else option_map suc o) (place_of-push id xs row)
    ∙ or_last-here (has_id id x) (place_of id xs) (has_id id row) (length xs)

or_last_new : (o : Option ℕ) (same : Bool) (n : ℕ) → (same ≡ true → o ≡ None) → cond same (Some n) o ≡ or_last o same n
or_last_new o true n h = rw (h refl) refl
or_last_new (Some at) false n h = refl
or_last_new None false n h = refl

same_place : (a b : PledgeId) (rows : List Row) → a.0 ≡ b.0 → place_of a rows ≡ place_of b rows
same_place a b [] e = refl
same_place a b (x ∷ xs) e = rw (e, same_place a b xs e) refl

-- the index with the place of one row more, whose identifier it didn't have
pub index_push : (m n : BTreeMap (List ℕ) ℕ) (rows : List Row) (row : Row) → IsIndexOf m rows → None ≡ get key_cmp m row.id.0
    → Updates key_cmp m n row.id.0 (Some (length rows)) → IsIndexOf n (rows ++ row ∷ [])
index_push m n rows row index absent updates = λ id.
    let new : place_of row.id rows ≡ None = sym (absent ∙ index row.id) in
    let step : get key_cmp n id.0 ≡ cond (is_eq (key_cmp row.id.0 id.0)) (Some (length rows)) (get key_cmp m id.0) = updates.0 id.0 in
    step ∙ rw (same_key row.id.0 id.0, index id)
    (or_last_new (place_of id rows) (bytes_eq row.id.0 id.0) (length rows)
    (λ same. same_place id row.id rows (sym ((bytes_eq-Decides row.id.0 id.0).0 same)) ∙ new))
    ∙ sym (place_of-push id rows row)

-- one row further, where its identifier isn't before it
pub twice_more : (before rest : List Row) (row : Row) → place_of row.id before ≡ None
    → twice_after before (row ∷ rest) ≡ twice_after (before ++ row ∷ []) rest
twice_more before rest row h = rw h refl

-- its identifier comes before it
pub twice_here : (before rest : List Row) (row : Row) (at : ℕ) → place_of row.id before ≡ Some at → twice_after before (row ∷ rest) ≡ Some row.id
twice_here before rest row at h = rw h refl

-- ---- a row and its place

pub no_row : (id : PledgeId) (rows : List Row) → None ≡ place_of id rows → None ≡ row_of id rows
no_row id [] h = refl
no_row id (x ∷ xs) h = elim (cases_Bool (has_id id x)) [
  | inl here ↦ cc (rw here at h)
  | inr there ↦ rw there (no_row id xs (unsuc (place_of id xs) (rw there at h)))
]
  where
    unsuc : (o : Option ℕ) → None ≡ option_map suc o → None ≡ o
    unsuc None h = refl
    unsuc (Some at) h = cc h

pub row_within : (id : PledgeId) (rows : List Row) (at : ℕ) → Some at ≡ place_of id rows → at < length rows
row_within id [] at h = cc h
row_within id (x ∷ xs) at h = elim (cases_Bool (has_id id x)) [
  | inl here ↦ let e : at ≡ 0 = cc (rw here at h) in omega (arith, e)
  | inr there ↦
      let p = unsuc (place_of id xs) at (rw there at h) in
      let below = row_within id xs p.0 p.1 in
      omega (arith, below, p.2)
]
  where
    unsuc : (o : Option ℕ) (at : ℕ) → Some at ≡ option_map suc o → (k : ℕ) × (Some k ≡ o) × (at ≡ suc k)
    unsuc None at h = cc h
    unsuc (Some k) at h = (k, refl, cc h)

pub row_there : (id : PledgeId) (rows : List Row) (at : ℕ) → Some at ≡ place_of id rows → slice_get rows at ≡ row_of id rows
row_there id [] at h = refl
row_there id (x ∷ xs) zero h = elim (cases_Bool (has_id id x)) [
  | inl here ↦ rw here refl
  | inr there ↦ absurd (not_suc (place_of id xs) (rw there at h))
]
  where
    not_suc : (o : Option ℕ) → Some 0 ≡ option_map suc o → ⊥
    not_suc None h = cc h
    not_suc (Some k) h = cc h
row_there id (x ∷ xs) (suc at) h = elim (cases_Bool (has_id id x)) [
  | inl here ↦ cc (rw here at h)
  | inr there ↦ rw there (row_there id xs at (unsuc (place_of id xs) (rw there at h)))
]
  where
    unsuc : (o : Option ℕ) → Some (suc at) ≡ option_map suc o → Some at ≡ o
    unsuc None h = cc h
    unsuc (Some k) h = cc h
