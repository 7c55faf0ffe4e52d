-- The top of an address after one more grant.
use Rattle.std.proofs.Common.{◌≡◌, ◌⊎◌, inl, inr, ℕ, ◌+◌, ◌<◌, ◌≤◌, false, List, ◌∷◌, Some, None, Contains, refl, sym, ◌∙◌, subst, arith}
use Rattle.address_leases.specs.declared.grant.Grant.{Grant}
use Rattle.address_leases.specs.declared.top.Top.{Top}
use Rattle.address_leases.specs.Indices.{IsTopOf, IsBelowTop}
use Rattle.address_leases.proofs.ListLemmas.{Contains-here, Contains-later, Contains-cons_cases}

-- the first grant of an address
pub first_top : (grants : List Grant) (passed : ℕ) (g : Grant) → IsTopOf grants passed g.address None
    → IsTopOf (g ∷ grants) passed g.address (Some (record { id = g.id; until = g.until; shared = false }))
first_top grants passed g old = record {
  above = λ x has at kept. elim (Contains-cons_cases g grants x has) [
    | inl same ↦ subst (λ y. IsBelowTop y (Some (record { id = g.id; until = g.until; shared = false }))) same (omega arith, λ _. refl)
    | inr later ↦ absurd (old.above x later at kept)
  ];
  is_one = λ _. Contains-here g grants;
}

-- one more grant of an address that has a top
pub next_top : (grants : List Grant) (passed : ℕ) (g : Grant) (t u : Top) → IsTopOf grants passed g.address (Some t)
    → IsBelowTop g (Some u)
    → (passed < t.until + 3600 → (t.until ≤ u.until) × (u.shared ≡ false → (t.shared ≡ false) × (t.id ≡ u.id)))
    → ((u.until ≡ g.until) × (u.id ≡ g.id)) ⊎ ((u.until ≡ t.until) × (u.id ≡ t.id))
    → IsTopOf (g ∷ grants) passed g.address (Some u)
next_top grants passed g t u old below raises one = record {
  above = λ x has at kept. elim (Contains-cons_cases g grants x has) [
    | inl same ↦ subst (λ y. IsBelowTop y (Some u)) same below
    | inr later ↦
        let x_below = old.above x later at kept in
        let up = raises (omega (arith, x_below.0)) in (
          omega (arith, x_below.0, up.0),
          λ alone. let both = up.1 alone in x_below.1 both.0 ∙ both.1,
        )
  ];
  is_one = λ kept.
      let at : ℕ → Type 0 = λ n. n ≡ n in
      elim one [
        | inl new ↦
            let same : g ≡ record { until = u.until; address = g.address; id = u.id } =
            λ i. record { until = sym new.0 i; address = g.address; id = sym new.1 i } in
            subst (Contains (g ∷ grants)) same (Contains-here g grants)
        | inr before ↦
            let same : record { until = t.until; address = g.address; id = t.id } ≡ record { until = u.until; address = g.address; id = u.id } =
            λ i. record { until = sym before.0 i; address = g.address; id = sym before.1 i } in
            let has = old.is_one (omega (arith, before.0)) in
            subst (Contains (g ∷ grants)) same (Contains-later g grants (record { until = t.until; address = g.address; id = t.id }) has)
      ];
}
