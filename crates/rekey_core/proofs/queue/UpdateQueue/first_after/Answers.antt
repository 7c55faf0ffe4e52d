use Rattle.std.proofs.Common.{subst, ap, List}
use Rattle.rekey_core.specs.declared.waiter.Waiter.{Waiter}
use Rattle.rekey_core.specs.Queue.{Queued, IsLeastAfter}
use Rattle.rekey_core.proofs.QueueLemmas.{least_after}
use Rattle.rekey_core.proofs.queue.UpdateQueue.first_after.Goals as goal

pub returns-in-Some : goal.returns-in-Some
returns-in-Some c =
    let q = c.self.inside in
    let least = least_after q.waiters.items q.ends q.limit c.args.now c.in-Some.place c.index.result.now c.self.invariant.0 c.in-Some.ensures c.index.ensures in
    subst (λ (ws : List Waiter). IsLeastAfter ws c.args.now c.index.result.now.number) (ap (λ (v : Queued). v.waiters) c.self.view_is) least
