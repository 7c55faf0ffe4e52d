use Rattle.std.proofs.Common.{sym, subst, ℕ, List}
use Rattle.join_history.specs.Updates.{IsFirstWaiting}
use Rattle.registrar_state.specs.Pledges.{KnowPledges}
use Rattle.registrar_state.proofs.PledgeWaits.{none_waits, first_waits}
use Rattle.registrar_state.proofs.pledges.Pledges.first_waiting.Goals as goal

pub returns-in-Some : goal.returns-in-Some
unfolding KnowPledges
returns-in-Some c = λ h epoch legal know spreading later.
    let p = c.args.self.now in
    subst (λ (b : List ℕ). IsFirstWaiting h c.args.now (record { 0 = b })) (sym c.to_be_bytes.ensures)
    (first_waits h p.holders p.grants.items p.queue.waiters c.args.now epoch c.in-Some.number legal know.0 know.1 (know.2 epoch spreading) spreading
    c.in-Some.ensures)

pub returns-in-None : goal.returns-in-None
unfolding KnowPledges
returns-in-None c = λ h epoch legal know spreading later.
    let p = c.args.self.now in
    none_waits h p.holders p.grants.items p.queue.waiters c.args.now epoch legal know.0 know.1 (know.2 epoch spreading) c.in-None.ensures
