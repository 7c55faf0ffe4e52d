use Rattle.std.proofs.Common.{subst}
use Rattle.join_history.specs.Legal.{IsTrueReason}
use Rattle.join_history.proofs.LeaseLemmas.{one_pledge}
use Rattle.registrar_state.proofs.state.RegState.may_refuse.Goals as goal

pub returns-in-Some : goal.returns-in-Some
returns-in-Some c = λ h stands.
    let may = c.in-Some.ensures.decides h stands in
    let reason = c.is_true_reason.ensures h stands in (
      λ yes. (c.in-Some.pledge, c.in-Some.settings.now, may, reason.0 yes),
      λ other.
          let same = one_pledge h c.args.context other.0 c.in-Some.pledge other.2.enrolled may.enrolled in
          reason.1 (subst (λ p. IsTrueReason h c.args.time p c.args.why) same other.3),
    )
