-- The numbers of contexts by their checks.
use Rattle.std.proofs.Common.{◌≡◌, ◌⊎◌, inl, inr, ℕ, true, false, List, [], ◌∷◌, ◌++◌, length, get_or, Option, Some, None, MatchOption, refl, sym, ap, ◌∙◌, subst, arith}
use Rattle.std.specs.Map.{lookup}
use Rattle.std.specs.Str.{bytes_eq}
use Rattle.std.specs.Bool.{Decides}
use Rattle.std.proofs.lemmas.Bool.{cases_lt}
use Rattle.std.proofs.lemmas.List.{length-append}
use Rattle.std.proofs.lemmas.Slice.Eq.{bytes_eq-Decides}
use Rattle.registrar_state.specs.declared.contexts.Row.{Row}
use Rattle.registrar_state.specs.Contexts.{AreNumbers, IsRowOf, IsNewCheck}
use Rattle.registrar_state.proofs.ContextSteps.{pushed_before, pushed_at}

-- what is found is a row of the check, and where nothing is found no row has it
pub found : (rows : List Row) (numbers : List (List ℕ × ℕ)) (check : List ℕ) (r : Option ℕ) → AreNumbers rows numbers
    → r ≡ lookup (bytes_eq check) numbers → MatchOption r (IsNewCheck rows check) (IsRowOf rows check)
found rows numbers check (Some c) are is = are.each check c (sym is)
found rows numbers check None are is = λ c row small same.
    let there = are.every c row small in
    cc (is, subst (λ (k : List ℕ). lookup (bytes_eq k) numbers ≡ Some c) same there)

some_same : (a b : ℕ) → Some a ≡ Some b → a ≡ b
some_same a b is = cc (is)

-- two checks are the same or not
check_cases : (a b : List ℕ) → (a ≡ b) ⊎ (bytes_eq a b ≡ false)
check_cases a b = (elim (bytes_eq a b) as (λ x. bytes_eq a b ≡ x → Decides x (a ≡ b) → (a ≡ b) ⊎ (bytes_eq a b ≡ false)) [
  | true ↦ λ is d. inl (d.0 refl)
  | false ↦ λ is d. inr is
]) refl (bytes_eq-Decides a b)

-- the numbers after one more context
pub AreNumbers-push : (rows : List Row) (numbers more : List (List ℕ × ℕ)) (new : Row) → AreNumbers rows numbers
    → IsNewCheck rows new.check → lookup (bytes_eq new.check) more ≡ Some (length rows)
    → ((q : List ℕ) → bytes_eq new.check q ≡ false → lookup (bytes_eq q) more ≡ lookup (bytes_eq q) numbers)
    → AreNumbers (rows ++ new ∷ []) more
AreNumbers-push rows numbers more new are is_new set others = record {
  each = λ check c is. elim (check_cases new.check check) [
    | inl same ↦
        let c_is : c ≡ length rows = some_same c (length rows) (sym is ∙ subst (λ (k : List ℕ). lookup (bytes_eq k) more ≡ Some (length rows)) same set) in (
          rw length-append (omega (arith, c_is)),
          λ row. ap (λ (x : ℕ). (get_or (rows ++ new ∷ []) x row).check) c_is ∙ ap (λ (r : Row). r.check) (pushed_at rows new row) ∙ same,
        )
    | inr other ↦
        let old = are.each check c (sym (others check other) ∙ is) in
        let below = old.0 in (
          rw length-append (omega (arith, below)),
          λ row. ap (λ (r : Row). r.check) (pushed_before rows new row c below) ∙ old.1 row,
        )
  ];
  every = λ c row small. elim (cases_lt c (length rows)) [
    | inl below ↦ elim (check_cases new.check (get_or rows c row).check) [
      | inl same ↦ absurd (is_new c row below (sym same))
      | inr other ↦
          let at = ap (λ (r : Row). r.check) (pushed_before rows new row c below) in
          subst (λ (k : List ℕ). lookup (bytes_eq k) more ≡ Some c) (sym at)
          (others (get_or rows c row).check other ∙ are.every c row below)
    ]
    | inr past ↦
        let last : c ≡ length rows = omega (arith, past, rw length-append at small) in
        let at = ap (λ (x : ℕ). (get_or (rows ++ new ∷ []) x row).check) last ∙ ap (λ (r : Row). r.check) (pushed_at rows new row) in
        subst (λ (k : List ℕ). lookup (bytes_eq k) more ≡ Some c) (sym at) (set ∙ ap (λ (x : ℕ). Some x) (sym last))
  ];
}
