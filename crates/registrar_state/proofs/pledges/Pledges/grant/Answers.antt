use Rattle.edge_traits.specs.declared.names.PledgeId.{PledgeId}
use Rattle.join_history.specs.Phases.{phase, IsSpreading}
use Rattle.join_history.proofs.KeyLemmas.{phase_fits}
use Rattle.join_history.proofs.NodeLemmas.{spreading_epoch}
use Rattle.join_history.proofs.AlikeLemmas.{spread_newest}
use Rattle.rekey_core.specs.declared.epochs.Epochs.{Epochs}
use Rattle.rekey_core.specs.Queue.{Queued, Ends}
use Rattle.std.proofs.Common.{◌≡◌, ◌≢◌, Option, ap, ◌∙◌, ◌++◌, ◌∷◌, [], refl, subst, sym, ℕ, arith}
use Rattle.journal_text.specs.declared.entry.Entry.TheVariants.{Grant}
use Rattle.rekey_core.specs.Held.{Held, IsLatest, or_none, epochs_of}
use Rattle.registrar_state.specs.declared.pledges.LastGrant.{LastGrant}
use Rattle.registrar_state.specs.LastGrants.{AreEpochs}
use Rattle.registrar_state.specs.Pledges.{KnowPledges, room_of, limit_of, capacity_of, IsNewPledge}
use Rattle.registrar_state.proofs.PledgeRoom.{has_room, room_kept}
use Rattle.registrar_state.proofs.PledgeEpochs.{newest_is_latest, AreEpochs-granted, AreEpochs-granted_first}
use Rattle.registrar_state.proofs.PledgeSteps.{known_granted}
use Rattle.registrar_state.proofs.pledges.Pledges.grant.Goals as goal

pub put-requires-clause-ascend : goal.put-requires-clause-ascend
unfolding KnowPledges
put-requires-clause-ascend c = c.requires.known.3.know.0.ascend

pub put-requires-clause-room : goal.put-requires-clause-room
unfolding room_of IsNewPledge
put-requires-clause-room c = c.requires.room

pub granted-requires-clause-latest : goal.granted-requires-clause-latest
unfolding KnowPledges
granted-requires-clause-latest c =
    let r = c.requires.known in
    subst (λ (held : Held). IsLatest held c.args.id c.args.epoch) (sym c.put.ensures.holders)
    (newest_is_latest r.0 c.args.self.now.holders c.args.id c.args.epoch r.3.legal r.3.know.1 r.5 (omega (arith, c.if-epoch-gt0.true)))

pub granted-requires-clause-room : goal.granted-requires-clause-room
granted-requires-clause-room c = λ none.
    has_room c.put.new.self.holders c.put.new.self.grants.items _ c.put.new.self.room c.put.ensures.replaces.has none c.put.new.self.held

pub invariant_of-self : goal.invariant_of-self
invariant_of-self c = record {
  reserved = c.put.new.self.reserved;
  held = room_kept c.put.new.self.holders c.granted.new.self c.args.id _ c.put.new.self.grants.items _ c.put.new.self.room
      c.granted.ensures.sets c.put.ensures.replaces.has refl c.put.new.self.held;
  queued = let fits = c.put.new.self.queued in let limit = c.remove.ensures.limit in omega (arith, fits, limit);
}

pub returns-then-epoch-gt0-clause-know : goal.returns-then-epoch-gt0-clause-know
unfolding KnowPledges
returns-then-epoch-gt0-clause-know c = λ h time number before owner newest.
    let a = c.args in
    let new = c.put.new.self in
    let x : LastGrant = record { id = a.id; context = a.context; address = a.address; until = a.until } in
    let epochs = AreEpochs-granted h time a.context number a.address a.until a.epoch a.id new.holders c.granted.new.self
    before.legal before.may_follow owner newest c.granted.ensures.sets (subst (AreEpochs h) (sym c.put.ensures.holders) before.know.1) in
    let ends = subst (λ (q : Queued). Ends c.number_of.result q.waiters c.remove.new.self.waiters) c.put.ensures.queue c.remove.ensures.ends in
    let others : (q : PledgeId) → q ≢ a.id → epochs_of c.granted.new.self q ≡ epochs_of a.self.now.holders q = λ q other.
    ap or_none (c.granted.ensures.sets.others q other) ∙ ap (λ (held : Held). epochs_of held q) c.put.ensures.holders in
    let has : (epoch : ℕ) → IsSpreading (phase h) epoch → (epochs_of c.granted.new.self a.id).has ≡ epoch = λ epoch spreading.
    ap (λ (o : Option Epochs). (or_none o).has) c.granted.ensures.sets.set ∙ newest ∙ sym (spread_newest (phase h) epoch spreading) in
    known_granted h time number x a.self.now.grants.items new.grants.items a.self.now.holders c.granted.new.self a.self.now.queue.waiters
    c.remove.new.self.waiters before.legal before.may_follow owner c.put.ensures.replaces epochs others has
    c.number_of.result c.number_of.ensures.number c.number_of.ensures.id ends before.know

pub returns-then-epoch-gt0-clause-limit : goal.returns-then-epoch-gt0-clause-limit
unfolding limit_of
returns-then-epoch-gt0-clause-limit c = c.put.ensures.limit

pub returns-then-epoch-gt0-clause-memory : goal.returns-then-epoch-gt0-clause-memory
unfolding capacity_of
returns-then-epoch-gt0-clause-memory c = c.put.ensures.memory

pub returns-else-epoch-gt0-clause-know : goal.returns-else-epoch-gt0-clause-know
unfolding KnowPledges
returns-else-epoch-gt0-clause-know c = λ h time number before owner newest.
    let a = c.args in
    let new = c.put.new.self in
    let x : LastGrant = record { id = a.id; context = a.context; address = a.address; until = a.until } in
    let longer = h ++ Grant time a.context number a.address a.until ∷ [] in
    let epochs = AreEpochs-granted_first h time a.context number a.address a.until a.id a.self.now.holders
    before.legal before.may_follow owner (omega (arith, c.if-epoch-gt0.false, newest)) before.know.1 in
    let ends = subst (λ (q : Queued). Ends c.number_of.result q.waiters c.remove.new.self.waiters) c.put.ensures.queue c.remove.ensures.ends in
    let others : (q : PledgeId) → q ≢ a.id → epochs_of new.holders q ≡ epochs_of a.self.now.holders q = λ q other.
    ap (λ (held : Held). epochs_of held q) c.put.ensures.holders in
    let has : (epoch : ℕ) → IsSpreading (phase h) epoch → (epochs_of new.holders a.id).has ≡ epoch = λ epoch spreading.
    let some = spreading_epoch (phase h) epoch (phase_fits h before.legal) spreading in
    let same = spread_newest (phase h) epoch spreading in
    absurd (omega (arith, some.0, same, newest, c.if-epoch-gt0.false)) in
    known_granted h time number x a.self.now.grants.items new.grants.items a.self.now.holders new.holders a.self.now.queue.waiters
    c.remove.new.self.waiters before.legal before.may_follow owner c.put.ensures.replaces
    (subst (AreEpochs longer) (sym c.put.ensures.holders) epochs) others has
    c.number_of.result c.number_of.ensures.number c.number_of.ensures.id ends before.know

pub returns-else-epoch-gt0-clause-limit : goal.returns-else-epoch-gt0-clause-limit
unfolding limit_of
returns-else-epoch-gt0-clause-limit c = c.put.ensures.limit

pub returns-else-epoch-gt0-clause-memory : goal.returns-else-epoch-gt0-clause-memory
unfolding capacity_of
returns-else-epoch-gt0-clause-memory c = c.put.ensures.memory
