use Rattle.std.proofs.Common.{inl, inr, sym, ◌∙◌, true≢false}
use Rattle.rekey_core.proofs.holders.Holders.ready.Goals as goal

pub returns-else-has : goal.returns-else-has
returns-else-has c = λ writes stands.
    let has = c.has.ensures writes stands in
    let is_stale = c.is_stale.ensures writes stands in (
      (λ is. inr (is_stale.0 is)),
      (λ either. elim either [
        | inl has_it ↦ absurd (true≢false (sym (has.1 has_it) ∙ c.if-has.false))
        | inr is_so ↦ is_stale.1 is_so
      ]),
    )
