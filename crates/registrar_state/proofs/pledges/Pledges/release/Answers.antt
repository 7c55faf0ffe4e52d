use Rattle.std.proofs.Common.{◌++◌, ◌∷◌, [], refl, subst, sym, ℕ}
use Rattle.journal_text.specs.declared.entry.Entry.TheVariants.{Release}
use Rattle.rekey_core.specs.Held.{Held}
use Rattle.rekey_core.specs.Queue.{Queued, Ends}
use Rattle.registrar_state.specs.Pledges.{KnowPledges, limit_of, capacity_of}
use Rattle.registrar_state.proofs.PledgeSteps.{Known, known_release, released_is_granted}
use Rattle.registrar_state.proofs.pledges.Pledges.release.Goals as goal

pub put-requires-clause-ascend : goal.put-requires-clause-ascend
unfolding KnowPledges
put-requires-clause-ascend c = c.requires.2.know.0.ascend

pub put-requires-clause-room : goal.put-requires-clause-room
unfolding KnowPledges
put-requires-clause-room c = λ new.
    let r = c.requires in
    let x = r.2.know.0.every c.args.id (released_is_granted r.0 r.1 c.args.id r.2.may_follow) in
    absurd (new x.0 x.1 x.2)

pub returns-in-Some-clause-know : goal.returns-in-Some-clause-know
unfolding KnowPledges
returns-in-Some-clause-know c = λ h time before.
    let old = c.args.self.now in
    let new = c.put.new.self in
    let longer = h ++ Release time c.args.id ∷ [] in
    let ends = subst (λ (q : Queued). Ends c.number_of.result q.waiters c.remove.new.self.waiters) c.put.ensures.queue c.remove.ensures.ends in
    let known = known_release h time c.args.id c.in-Some.last _ old.grants.items new.grants.items old.holders old.queue.waiters
    c.remove.new.self.waiters before.legal before.may_follow (c.in-Some.ensures h before.know) refl refl refl refl c.put.ensures.replaces
    c.number_of.result c.number_of.ensures.number c.number_of.ensures.id ends before.know in
    subst (λ (held : Held). Known longer new.grants.items held c.remove.new.self.waiters) (sym c.put.ensures.holders) known

pub returns-in-Some-clause-limit : goal.returns-in-Some-clause-limit
unfolding limit_of
returns-in-Some-clause-limit c = c.put.ensures.limit

pub returns-in-Some-clause-memory : goal.returns-in-Some-clause-memory
unfolding capacity_of
returns-in-Some-clause-memory c = c.put.ensures.memory

pub returns-in-None-clause-know : goal.returns-in-None-clause-know
returns-in-None-clause-know c = λ h time before.
    absurd (c.in-None.ensures h before.know (released_is_granted h time c.args.id before.may_follow))
