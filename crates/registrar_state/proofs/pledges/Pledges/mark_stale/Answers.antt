use Rattle.std.proofs.Common.{arith, ◌≡◌, None, refl, subst, sym}
use Rattle.rekey_core.specs.Held.{known_of}
use Rattle.registrar_state.specs.Pledges.{KnowPledges, room_of, limit_of, capacity_of}
use Rattle.registrar_state.proofs.PledgeRoom.{has_room, room_kept}
use Rattle.registrar_state.proofs.PledgeSteps.{spread_is_latest, lacking_is_kept, known_stale}
use Rattle.registrar_state.proofs.pledges.Pledges.mark_stale.Goals as goal

pub stale-requires-clause-latest : goal.stale-requires-clause-latest
unfolding KnowPledges
stale-requires-clause-latest c =
    let r = c.requires in
    spread_is_latest r.0 c.args.self.now.holders c.args.id c.args.epoch r.2.legal r.2.know.1 r.2.may_follow.0.1

pub stale-requires-clause-room : goal.stale-requires-clause-room
unfolding KnowPledges
stale-requires-clause-room c = λ none.
    let r = c.requires in
    let x = lacking_is_kept r.0 c.args.self.now.grants.items r.1 c.args.epoch c.args.id r.2.know.0 r.2.may_follow.0 in
    has_room c.args.self.now.holders c.args.self.now.grants.items x.0 c.args.self.now.room x.1
    (subst (λ p. known_of c.args.self.now.holders p ≡ None) (sym x.2) none) c.args.self.now.held

pub invariant_of-self : goal.invariant_of-self
unfolding KnowPledges
invariant_of-self c =
    let r = c.requires in
    let x = lacking_is_kept r.0 c.args.self.now.grants.items r.1 c.args.epoch c.args.id r.2.know.0 r.2.may_follow.0 in
    record {
      reserved = c.args.self.now.reserved;
      held = room_kept c.args.self.now.holders c.stale.new.self c.args.id _ c.args.self.now.grants.items x.0 c.args.self.now.room
          c.stale.ensures.sets x.1 x.2 c.args.self.now.held;
      queued = let fits = c.args.self.now.queued in let limit = c.remove.ensures.limit in omega (arith, fits, limit);
    }

pub returns-clause-know : goal.returns-clause-know
unfolding KnowPledges
returns-clause-know c = λ h time before.
    known_stale h time c.args.epoch c.args.id c.args.self.now.grants.items c.args.self.now.holders c.stale.new.self
    c.args.self.now.queue.waiters c.remove.new.self.waiters before.legal before.may_follow c.stale.ensures.sets
    c.number_of.result c.number_of.ensures.number c.number_of.ensures.id c.remove.ensures.ends before.know

pub returns-clause-room : goal.returns-clause-room
unfolding room_of
returns-clause-room c = refl

pub returns-clause-limit : goal.returns-clause-limit
unfolding limit_of
returns-clause-limit c = refl

pub returns-clause-memory : goal.returns-clause-memory
unfolding capacity_of
returns-clause-memory c = refl
