use Rattle.std.proofs.Common.{ℕ, List, refl, sym, subst}
use Rattle.join_history.specs.Summary.{Ascends}
use Rattle.registrar_state.specs.declared.pledges.LastGrant.{LastGrant}
use Rattle.registrar_state.specs.LastGrants.{IsBefore, AreWaiting}
use Rattle.registrar_state.specs.Pledges.{KnowPledges, room_of, limit_of, capacity_of}
use Rattle.registrar_state.proofs.PledgeSteps.{known_rolled}
use Rattle.registrar_state.proofs.pledges.Pledges.roll.Goals as goal

pub fill-requires-clause-ascend : goal.fill-requires-clause-ascend
unfolding KnowPledges
fill-requires-clause-ascend c = subst (Ascends IsBefore) (sym c.deref.ensures.value) c.requires.1.0.ascend

pub returns-clause-know : goal.returns-clause-know
unfolding KnowPledges
returns-clause-know c = λ h time set before same.
    let p = c.args.self.now in
    let queue = c.fill.new.queue.waiters in
    let waiting = subst (λ (l : List LastGrant). AreWaiting l p.holders c.args.epoch queue) c.deref.ensures.value c.fill.ensures.waiting in
    known_rolled h time set p.grants.items p.holders p.queue.waiters queue before.legal before.may_follow
    (subst (λ (n : ℕ). AreWaiting p.grants.items p.holders n queue) same waiting) before.know

pub returns-clause-room : goal.returns-clause-room
unfolding room_of
returns-clause-room c = refl

pub returns-clause-limit : goal.returns-clause-limit
unfolding limit_of
returns-clause-limit c = refl

pub returns-clause-memory : goal.returns-clause-memory
unfolding capacity_of
returns-clause-memory c = refl
