use Rattle.std.proofs.Common.{subst, sym, arith, List}
use Rattle.std.specs.Result.{is_ok}
use Rattle.join_history.specs.Summary.{Ascends}
use Rattle.registrar_state.specs.declared.pledges.LastGrant.{LastGrant}
use Rattle.registrar_state.specs.LastGrants.{IsBefore, IsPlaceOf, IsGapFor, Replaces}
use Rattle.registrar_state.proofs.PledgeRoom.{one_more, unheld_more, length_more}
use Rattle.registrar_state.proofs.PledgeOrder.{replaces_set, replaces_insert, not_in_gap}
use Rattle.registrar_state.proofs.pledges.Pledges.put.Goals as goal

pub invariant_of-self-in-Err : goal.invariant_of-self-in-Err
invariant_of-self-in-Err c =
    let list = c.deref.ensures.value in
    let found = c.in-Err.ensures.finds (subst (Ascends IsBefore) (sym list) c.requires.ascend) in
    let gap = subst (λ l. IsGapFor l c.args.last.id c.in-Err.place) list found in
    let room = c.requires.room (not_in_gap c.args.self.now.grants.items c.args.last.id c.in-Err.place gap) in
    let added = is_ok c.insert.result in
    record {
      reserved = omega (arith, one_more added _ _ c.insert.ensures.len, c.insert.ensures.capacity, c.args.self.now.reserved, room);
      held = omega (
        arith,
        unheld_more c.args.self.now.holders c.args.self.now.grants.items c.insert.new.self.items c.in-Err.place c.args.last added
            c.insert.ensures.items,
        c.args.self.now.held,
        room,
      );
      queued =
          let more = length_more c.args.self.now.grants.items c.insert.new.self.items c.in-Err.place c.args.last added gap.in_range c.insert.ensures.items in
          let fits = c.args.self.now.queued in omega (arith, more, fits, room);
    }

pub returns-in-Ok-clause-replaces : goal.returns-in-Ok-clause-replaces
returns-in-Ok-clause-replaces c =
    let list = c.deref.ensures.value in
    let found = c.in-Ok.ensures.finds (subst (Ascends IsBefore) (sym list) c.requires.ascend) in
    replaces_set c.args.self.now.grants.items c.in-Ok.place c.args.last c.requires.ascend
    (subst (λ l. IsPlaceOf l c.args.last.id c.in-Ok.place) list found)

pub returns-in-Ok-insert-clause-replaces : goal.returns-in-Ok-insert-clause-replaces
returns-in-Ok-insert-clause-replaces c =
    let list = c.deref.ensures.value in
    let found = c.in-Err.ensures.finds (subst (Ascends IsBefore) (sym list) c.requires.ascend) in
    let gap = subst (λ l. IsGapFor l c.args.last.id c.in-Err.place) list found in
    subst (λ (l : List LastGrant). Replaces c.args.self.now.grants.items l c.args.last) (sym c.in-Ok-insert.ensures.items)
    (replaces_insert c.args.self.now.grants.items c.in-Err.place c.args.last c.requires.ascend gap)
