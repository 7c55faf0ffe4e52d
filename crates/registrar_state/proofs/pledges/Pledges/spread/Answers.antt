use Rattle.std.proofs.Common.{ℕ, List, Option, MatchOption, refl, subst}
use Rattle.join_history.specs.Phases.{phase, IsSpreading}
use Rattle.registrar_state.specs.declared.pledges.LastGrant.{LastGrant}
use Rattle.registrar_state.specs.LastGrants.{AreWaiting}
use Rattle.registrar_state.specs.Pledges.{KnowPledges, KnowGrants, limit_of}
use Rattle.registrar_state.proofs.PledgeSteps.{one_spread}
use Rattle.registrar_state.proofs.pledges.Pledges.spread.Goals as goal

pub returns-in-Some-clause-know : goal.returns-in-Some-clause-know
unfolding KnowPledges KnowGrants
returns-in-Some-clause-know c = λ h spread know.
    let p = c.args.self.now in
    let queue = c.fill.new.queue.waiters in
    let waiting = subst (λ (l : List LastGrant). AreWaiting l p.holders c.in-Some.epoch queue) c.deref.ensures.value c.fill.ensures.waiting in
    let spreading = subst (λ (o : Option ℕ). MatchOption o ((e : ℕ) → IsSpreading (phase h) e → ⊥) (IsSpreading (phase h))) c.in-Some.is spread in (
      know.0,
      know.1,
      λ epoch now.
          subst (λ (n : ℕ). AreWaiting p.grants.items p.holders n queue) (one_spread (phase h) c.in-Some.epoch epoch spreading now) waiting,
    )

pub returns-in-Some-clause-limit : goal.returns-in-Some-clause-limit
unfolding limit_of
returns-in-Some-clause-limit c = refl

pub returns-in-None-clause-know : goal.returns-in-None-clause-know
unfolding KnowPledges KnowGrants
returns-in-None-clause-know c = λ h spread know.
    let none = subst (λ (o : Option ℕ). MatchOption o ((e : ℕ) → IsSpreading (phase h) e → ⊥) (IsSpreading (phase h))) c.in-None.is spread in
    (know.0, know.1, λ epoch now. absurd (none epoch now))
