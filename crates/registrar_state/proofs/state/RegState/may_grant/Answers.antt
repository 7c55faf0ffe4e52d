use Rattle.std.proofs.Common.{◌∙◌, subst}
use Rattle.join_history.specs.Leases.{IsDueAddress}
use Rattle.join_history.proofs.LeaseLemmas.{one_pledge}
use Rattle.registrar_state.proofs.state.RegState.may_grant.Goals as goal

pub returns-then-until-lease_end : goal.returns-then-until-lease_end
returns-then-until-lease_end c = λ h stands.
    let may = c.in-Some.ensures.decides h stands in
    let due = c.is_due_address.ensures h stands in (
      λ yes. (c.in-Some.pledge, c.in-Some.settings.now, may, due.0 yes, c.if-until-lease_end.true ∙ c.lease_end.ensures),
      λ other.
          let same = one_pledge h c.args.context other.0 c.in-Some.pledge other.2.enrolled may.enrolled in
          due.1 (subst (λ p. IsDueAddress h c.args.time p c.args.address) same other.3),
    )
