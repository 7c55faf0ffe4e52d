use Rattle.std.proofs.Common.{inl, inr, refl, sym, ◌∙◌, subst, arith}
use Rattle.std.proofs.lemmas.Bool.{cases_lt}
use Rattle.address_leases.specs.Indices.{IsTopOf}
use Rattle.address_leases.proofs.IdLemmas.{id_from_test}
use Rattle.address_leases.proofs.TopLemmas.{first_top, next_top}
use Rattle.address_leases.proofs.top.raise.Goals as goal

pub returns-in-None : goal.returns-in-None
returns-in-None c = λ grants old.
    first_top grants c.args.passed c.args.grant (subst (IsTopOf grants c.args.passed c.args.grant.address) c.in-None.is old)

pub returns-then-eq : goal.returns-then-eq
returns-then-eq c = λ grants old.
    let t = subst (IsTopOf grants c.args.passed c.args.grant.address) c.in-Some.is old in
    let same = id_from_test c.in-Some.top.id c.args.grant.id (sym c.eq.ensures ∙ c.if-eq.true) in
    next_top grants c.args.passed c.args.grant c.in-Some.top _ t (omega arith, λ _. sym same)
    (λ kept. (omega arith, λ alone. (alone, refl)))
    (elim (cases_lt c.in-Some.top.until c.args.grant.until) [
      | inl less ↦ inl (omega arith, same)
      | inr at_least ↦ inr (omega arith, refl)
    ])

pub returns-then-is_over : goal.returns-then-is_over
returns-then-is_over c = λ grants old.
    let t = subst (IsTopOf grants c.args.passed c.args.grant.address) c.in-Some.is old in
    next_top grants c.args.passed c.args.grant c.in-Some.top _ t (omega arith, λ _. refl)
    (λ kept. absurd (omega (arith, c.if-is_over.ensures.0 refl)))
    (inl (refl, refl))

pub returns-then-grant-top : goal.returns-then-grant-top
returns-then-grant-top c = λ grants old.
    let t = subst (IsTopOf grants c.args.passed c.args.grant.address) c.in-Some.is old in
    next_top grants c.args.passed c.args.grant c.in-Some.top _ t (omega arith, λ no. cc)
    (λ kept. (omega arith, λ no. cc))
    (inl (refl, refl))

pub returns-else-grant-top : goal.returns-else-grant-top
returns-else-grant-top c = λ grants old.
    let t = subst (IsTopOf grants c.args.passed c.args.grant.address) c.in-Some.is old in
    next_top grants c.args.passed c.args.grant c.in-Some.top _ t (omega arith, λ no. cc)
    (λ kept. (omega arith, λ no. cc))
    (inr (refl, refl))
