-- The order of the queue, and what is left of it.
use Rattle.std.proofs.Common.{slice_index_or, not, is_some, length, Option, Some, None, zero, suc, Contains, Any, ◌↔◌, ◌≢◌, add-one, ◌≡◌, inl, inr, ℕ, ◌+◌, ◌<◌, ◌≤◌, Bool, true, false, cond, List, [], ◌∷◌, map, filter, All, IsPermutation, refl, sym, ap, ◌∙◌, subst, arith, is_lt, true≢false}
use Rattle.std.specs.List.{AllByRecursion}
use Rattle.std.specs.declared.cmp.Reverse.{Reverse}
use Rattle.std.proofs.lemmas.Bool.{cases_lt, lt-ltb, le-ltb}
use Rattle.std.proofs.lemmas.List.Elements.{All-nil, All-cons, All-weaker}
use Rattle.address_leases.specs.declared.grant.Grant.{Grant}
use Rattle.std.proofs.lemmas.List.Sorted.{length_permutation}
use Rattle.edge_traits.specs.declared.names.PledgeId.{PledgeId}
use Rattle.address_leases.specs.Grants.{Holds, IsHeldByAnother}
use Rattle.address_leases.specs.Indices.{earlier, grant_of, IsHolding, Queued, Pops}
use Rattle.address_leases.specs.Steps.{is_kept}
use Rattle.address_leases.proofs.ListLemmas.{IsPermutation-filter, filter-all, Contains-here, Contains-later, Contains-cons_cases}

-- what isn't earlier in the queue ends no earlier
pub ends_later : (x y : Reverse Grant) → is_lt (earlier x y) ≡ false → x.0.until ≤ y.0.until
ends_later x y is = elim (cases_lt y.0.until x.0.until) [
  | inl less ↦ absurd (true≢false (sym (rw (lt-ltb y.0.until x.0.until less) refl) ∙ is))
  | inr at_least ↦ at_least
]

-- where the first one isn't over none is
pub none_over : (t : ℕ) (x : Reverse Grant) (items : List (Reverse Grant)) → t < x.0.until + 3600
    → AllByRecursion (λ y. is_lt (earlier x y) ≡ false) items → All (λ g. t < g.until + 3600) (map grant_of items)
none_over t x [] kept all = All-nil (λ (g : Grant). t < g.until + 3600)
none_over t x (y ∷ items) kept all =
    let later = ends_later x y all.0 in
    All-cons (λ (g : Grant). t < g.until + 3600) y.0 (map grant_of items) (omega arith) (none_over t x items kept all.1)

-- a filter leaves out what is over
pub filter_over : (t : ℕ) (g : Grant) (grants : List Grant) → g.until + 3600 ≤ t
    → filter (is_kept t) (g ∷ grants) ≡ filter (is_kept t) grants
filter_over t g grants over = rw (le-ltb t (g.until + 3600) over) refl

-- and nothing where nothing is over
pub filter_kept : (t : ℕ) (grants : List Grant) → All (λ g. t < g.until + 3600) grants → filter (is_kept t) grants ≡ grants
filter_kept t grants all =
    filter-all (is_kept t) grants
    (All-weaker (λ (g : Grant). t < g.until + 3600) (λ g. is_kept t g ≡ true) (λ g kept. lt-ltb t (g.until + 3600) kept) grants all)

-- one that is over was taken out
pub filter_popped : (t : ℕ) (old new : List Grant) (g : Grant) → g.until + 3600 ≤ t → IsPermutation old (g ∷ new)
    → IsPermutation (filter (is_kept t) old) (filter (is_kept t) new)
filter_popped t old new g over moved =
    subst (IsPermutation (filter (is_kept t) old)) (filter_over t g new over) (IsPermutation-filter (is_kept t) old (g ∷ new) moved)

-- a test that gives false says that the grant isn't over
pub not_over : (b : Bool) (until t : ℕ) → ((b ≡ true) ↔ (until + 3600 ≤ t)) → b ≡ false → t < until + 3600
not_over b until t says is = elim (cases_lt t (until + 3600)) [
  | inl kept ↦ kept
  | inr over ↦ absurd (true≢false (sym (says.1 over) ∙ is))
]

-- a filter of the grants in the queue
pub filter-grants : (p : Grant → Bool) (items : List (Reverse Grant))
    → filter p (map grant_of items) ≡ map grant_of (filter (λ r. p r.0) items)
filter-grants p [] = refl
filter-grants p (r ∷ items) =
    elim (p r.0) as (λ b. cond b (r.0 ∷ filter p (map grant_of items)) (filter p (map grant_of items)) ≡ map grant_of (cond b (r ∷ filter (λ r. p r.0) items) (filter (λ r. p r.0) items))) [
      | true ↦ ap (λ l. r.0 ∷ l) (filter-grants p items)
      | false ↦ filter-grants p items
    ]

-- what some item of the queue is, some grant is
pub grant_from_any : (P : Grant → Type 0) (items : List (Reverse Grant)) → Any (λ r. P r.0) items
    → (g : Grant) × Contains (map grant_of items) g × P g
grant_from_any P [] any = absurd (omega (arith, any.2))
grant_from_any P (r ∷ items) (zero, x, below, at, holds) =
    (r.0, Contains-here r.0 (map grant_of items), subst (λ y. P y.0) (sym at) holds)
grant_from_any P (r ∷ items) (suc k, x, below, at, holds) =
    let later = grant_from_any P items (k, x, omega arith, at, holds) in
    (later.0, Contains-later r.0 (map grant_of items) later.0 later.1, later.2)

pub any_from_grant : (P : Grant → Type 0) (items : List (Reverse Grant)) (g : Grant) → Contains (map grant_of items) g → P g
    → Any (λ r. P r.0) items
any_from_grant P [] g has holds = absurd (omega (arith, has.1))
any_from_grant P (r ∷ items) g has holds = elim (Contains-cons_cases r.0 (map grant_of items) g has) [
  | inl same ↦ (0, r, omega arith, refl, subst P (sym same) holds)
  | inr later ↦ let at = any_from_grant P items g later holds in (at.0 + 1, at.1, omega (arith, at.2), rw (add-one) at.3, at.4)
]

pub holds_from_any : (items : List (Reverse Grant)) (t a : ℕ) (p : PledgeId)
    → Any (λ r. IsHolding t a r.0 × (r.0.id ≡ p)) items ↔ Holds (map grant_of items) t a p
holds_from_any items t a p = (
  λ any. let at = grant_from_any (λ g. IsHolding t a g × (g.id ≡ p)) items any in (at.0, at.1, at.2.0.0, at.2.1, at.2.0.1),
  λ (g, has, at, of, kept). any_from_grant (λ g. IsHolding t a g × (g.id ≡ p)) items g has ((at, kept), of),
)

pub another_from_any : (items : List (Reverse Grant)) (t a : ℕ) (p : PledgeId)
    → Any (λ r. IsHolding t a r.0 × (r.0.id ≢ p)) items ↔ IsHeldByAnother (map grant_of items) t a p
another_from_any items t a p = (
  λ any. let at = grant_from_any (λ g. IsHolding t a g × (g.id ≢ p)) items any in (at.0.id, at.2.1, (at.0, at.1, at.2.0.0, refl, at.2.0.1)),
  λ (q, other, (g, has, at, of, kept)).
      any_from_grant (λ g. IsHolding t a g × (g.id ≢ p)) items g has ((at, kept), λ same. other (sym of ∙ same)),
)

-- ---- what a pop says

pub popped : (t : ℕ) (old new : Queued) (r : Option Grant) → is_some r ≡ true → Pops t old r new
    → IsPermutation (filter (is_kept t) old.grants) (filter (is_kept t) new.grants)
    × (length new.grants + 1 ≡ length old.grants) × (new.room ≡ old.room + 1)
popped t old new None some pops = absurd (true≢false (sym some))
popped t old new (Some g) some pops = (
  filter_popped t old.grants new.grants g pops.0 pops.1,
  omega (arith, length_permutation old.grants (g ∷ new.grants) pops.1),
  pops.2,
)

pub not_popped : (t : ℕ) (old new : Queued) (r : Option Grant) → is_some r ≡ false → Pops t old r new
    → (new ≡ old) × (filter (is_kept t) old.grants ≡ old.grants)
not_popped t old new None none pops = (pops.0, filter_kept t old.grants pops.1)
not_popped t old new (Some g) none pops = absurd (true≢false none)

-- ---- what a filter keeps

pub Contains-from_filter : {X : Type 0} (p : X → Bool) (xs : List X) (x : X) → Contains (filter p xs) x → Contains xs x × (p x ≡ true)
Contains-from_filter p [] x has = absurd (omega (arith, has.1))
Contains-from_filter {X} p (y ∷ xs) x has =
    (elim (p y) as (λ b. p y ≡ b → Contains (cond b (y ∷ filter p xs) (filter p xs)) x → Contains (y ∷ xs) x × (p x ≡ true)) [
      | true ↦ λ is here. elim (Contains-cons_cases y (filter p xs) x here) [
        | inl same ↦ (subst (Contains (y ∷ xs)) same (Contains-here y xs), subst (λ (z : X). p z ≡ true) same is)
        | inr later ↦ let old = Contains-from_filter p xs x later in (Contains-later y xs x old.0, old.1)
      ]
      | false ↦ λ is later. let old = Contains-from_filter p xs x later in (Contains-later y xs x old.0, old.1)
    ]) refl has

pub Contains-filter : {X : Type 0} (p : X → Bool) (xs : List X) (x : X) → Contains xs x → p x ≡ true → Contains (filter p xs) x
Contains-filter p [] x has is = absurd (omega (arith, has.1))
Contains-filter {X} p (y ∷ xs) x has is =
    (elim (p y) as (λ b. p y ≡ b → Contains (cond b (y ∷ filter p xs) (filter p xs)) x) [
      | true ↦ λ y_is. elim (Contains-cons_cases y xs x has) [
        | inl same ↦ subst (Contains (y ∷ filter p xs)) same (Contains-here y (filter p xs))
        | inr later ↦ Contains-later y (filter p xs) x (Contains-filter p xs x later is)
      ]
      | false ↦ λ y_is. elim (Contains-cons_cases y xs x has) [
        | inl same ↦ absurd (true≢false (sym is ∙ ap p (sym same) ∙ y_is))
        | inr later ↦ Contains-filter p xs x later is
      ]
    ]) refl

-- the first item is one, whatever is read past the end
pub same_first : (items rest : List (Reverse Grant)) (x y : Reverse Grant) → x ≡ slice_index_or items 0 x
    → y ≡ slice_index_or items 0 y → IsPermutation items (y ∷ rest) → y ≡ x
same_first [] rest x y first first' moved = absurd (omega (arith, length_permutation [] (y ∷ rest) moved))
same_first (z ∷ items) rest x y first first' moved = first' ∙ sym first
