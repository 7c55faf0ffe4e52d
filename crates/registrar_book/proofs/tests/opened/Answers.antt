-- The first row has context 0.
use Rattle.std.proofs.Common.{◌≡◌, ◌<◌, ◌∷◌, [], ℕ, Bool, true, false, List, Some, length, get_or, if◌then◌else◌, ◌==◌, refl, sym, ap, subst, arith, inl, inr}
use Rattle.std.specs.Prelude.{Contains}
use Rattle.std.specs.List.{AllZip}
use Rattle.std.proofs.lemmas.Grind.{common_steps}
use Rattle.std.proofs.lemmas.List.Elements.{Contains-push_cases, Contains-append_cases}
use Rattle.edge_traits.specs.declared.names.PledgeId.{PledgeId}
use Rattle.journal_text.specs.declared.entry.Entry.{Entry}
use Rattle.journal_text.specs.declared.entry.Entry.TheVariants.{Enroll}
use Rattle.join_history.specs.Contexts.{pledge_of}
use Rattle.registrar_book.specs.Books.{log_of}
use Rattle.registrar_book.specs.Opening.{Row, HasContext}
use Rattle.registrar_book.proofs.tests.opened.Goals as goal

abbrev Has : List Entry → ℕ → Type 0
Has h c = (p : PledgeId) × (pledge_of h c ≡ Some p)

same : (c : ℕ) → (c == c) ≡ true
same c = grind arith

has_later : (e : Entry) (h : List Entry) (c : ℕ) → Has h c → Has (e ∷ h) c
has_later (Enroll context id check) h c has =
    elim (context == c) as (λ b. (p : PledgeId) × ((if b then Some id else pledge_of h c) ≡ Some p)) [
      | true ↦ (id, refl)
      | false ↦ has
    ]
has_later _ h c has = has

has : (h : List Entry) (c : ℕ) (id : PledgeId) (check : List ℕ) → Contains h (Enroll c id check) → Has h c
has [] c id check found = absurd (omega (arith, found.1))
has (e ∷ h) c id check found = elim (Contains-append_cases (e ∷ []) h (Enroll c id check) found) [
  | inl here ↦ elim (Contains-push_cases [] e (Enroll c id check) here) [
    | inl none ↦ absurd (omega (arith, none.1))
    | inr is ↦
        subst (λ (x : Entry). Has (x ∷ h) c) (sym is) (id, ap (λ (b : Bool). if b then Some id else pledge_of h c) (same c))
  ]
  | inr later ↦ has_later e h c (has h c id check later)
]

first : (h : List Entry) (rows : List Row) (contexts : List ℕ) → AllZip (HasContext h) rows contexts → 0 < length contexts → get_or contexts 0 0 ≡ 0 → Has h 0
first h [] [] each some zero = absurd (omega (arith, some))
first h [] (c ∷ contexts) each some zero = absurd each
first h (row ∷ rows) [] each some zero = absurd each
first h (row ∷ rows) (c ∷ contexts) each some zero =
    has h 0 row.0 row.1 (subst (λ (n : ℕ). Contains h (Enroll n row.0 row.1)) zero each.0)

pub returns-in-Ok-clause-enrolled : goal.returns-in-Ok-clause-enrolled
returns-in-Ok-clause-enrolled g c =
    let is = c.in-Ok.ensures.opened.is_open in
    let contexts : List ℕ = c.in-Ok.contexts.items in
    let some : 0 < length contexts = grind (arith, common_steps) in
    let zero : get_or contexts 0 0 ≡ 0 = grind (arith, common_steps) in
    let found = first (log_of c.in-Ok.book) c.in_ok-opening.opening.rows.items contexts is.each some zero in
    (log_of c.in-Ok.book, found.0, is.stands, found.1)
