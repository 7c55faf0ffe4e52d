use Rattle.std.proofs.Common.{sym, subst}
use Rattle.join_history.specs.Summary.{Ascends}
use Rattle.registrar_state.specs.LastGrants.{IsBefore, IsPlaceOf, IsGapFor}
use Rattle.registrar_state.specs.Pledges.{KnowPledges}
use Rattle.registrar_state.proofs.PledgeGrants.{kept_at}
use Rattle.registrar_state.proofs.PledgeOrder.{not_in_gap}
use Rattle.registrar_state.proofs.pledges.Pledges.last_grant.Goals as goal

pub returns-in-Ok : goal.returns-in-Ok
unfolding KnowPledges
returns-in-Ok c = λ h know.
    let list = c.deref.ensures.value in
    let place = c.in-Ok.ensures.finds (subst (Ascends IsBefore) (sym list) know.0.ascend) in
    kept_at h c.args.self.now.grants.items c.args.id c.in-Ok.place c.index.result.now know.0
    (subst (λ l. IsPlaceOf l c.args.id c.in-Ok.place) list place) c.index.ensures

pub returns-in-Err : goal.returns-in-Err
unfolding KnowPledges
returns-in-Err c = λ h know some.
    let list = c.deref.ensures.value in
    let gap = c.in-Err.ensures.finds (subst (Ascends IsBefore) (sym list) know.0.ascend) in
    let y = know.0.every c.args.id some in
    not_in_gap c.args.self.now.grants.items c.args.id c.in-Err.field-0 (subst (λ l. IsGapFor l c.args.id c.in-Err.field-0) list gap) y.0 y.1 y.2
