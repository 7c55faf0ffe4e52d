use Rattle.std.proofs.Common.{inl, inr, refl, sym, ◌∙◌, ap, arith, Some, true≢false}
use Rattle.std.proofs.lemmas.Bool.{cases_Bool}
use Rattle.address_leases.proofs.LastLemmas.{last_of_next}
use Rattle.address_leases.proofs.leases.Leases.next_last.Goals as goal

pub returns-then-last-grant-clause-grants : goal.returns-then-last-grant-clause-grants
returns-then-last-grant-clause-grants c =
    last_of_next c.args.self.now.grants c.args.self.now.passed c.args.grant c.args.last _ c.requires refl refl
    (λ a at _. elim at [ inl same ↦ inl (omega arith) | inr rest ↦ inr rest ])

pub returns-else-last-clause-grants : goal.returns-else-last-clause-grants
returns-else-last-clause-grants c =
    last_of_next c.args.self.now.grants c.args.self.now.passed c.args.grant c.args.last _ c.requires refl refl
    (λ a at (x, has, kept, xa). elim at [
      | inl same ↦ inr (inl (ap (λ n. Some n) (sym same)))
      | inr (inl before) ↦ elim (cases_Bool c.is_lost.result) [
        | inl lost ↦ inr (inr lost)
        | inr known ↦ inl (sym xa ∙ c.is_lost.ensures known x has kept (before ∙ ap (λ n. Some n) (sym xa)))
      ]
      | inr (inr more) ↦ absurd (true≢false (sym more ∙ c.if-last.false))
    ])
