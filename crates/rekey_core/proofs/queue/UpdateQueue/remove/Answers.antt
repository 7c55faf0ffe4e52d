use Rattle.std.proofs.Common.{ℕ, List, set, ap, sym, subst}
use Rattle.rekey_core.specs.declared.waiter.Waiter.{Waiter}
use Rattle.rekey_core.specs.Queue.{Queued, IsQueue, IsPlaceOf, IsAscending, Ends}
use Rattle.rekey_core.proofs.QueueLemmas.{removed, removes}
use Rattle.rekey_core.proofs.queue.UpdateQueue.remove.Goals as goal

pub invariant_of-self : goal.invariant_of-self
invariant_of-self c =
    let q = c.self.inside in
    let ws = q.waiters.items in
    let x : Waiter = record { number = c.args.number; until = 0 } in
    let ascending = c.self.invariant.0.ascending in
    let list = c.deref.ensures.value in
    let place = subst (λ (l : List Waiter). IsPlaceOf l c.args.number c.in-Ok.place) list
    (c.in-Ok.ensures.finds (subst IsAscending (sym list) ascending)) in
    let is = removed ws q.ends q.limit c.args.number c.in-Ok.place c.self.invariant.0 place in (
      subst (λ (e : List ℕ). IsQueue (set ws c.in-Ok.place x) e q.limit) (sym c.set.ensures) is,
      c.self.invariant.1,
    )

pub returns-in-Ok-clause-ends : goal.returns-in-Ok-clause-ends
returns-in-Ok-clause-ends c =
    let q = c.self.inside in
    let ws = q.waiters.items in
    let x : Waiter = record { number = c.args.number; until = 0 } in
    let ascending = c.self.invariant.0.ascending in
    let list = c.deref.ensures.value in
    let place = subst (λ (l : List Waiter). IsPlaceOf l c.args.number c.in-Ok.place) list
    (c.in-Ok.ensures.finds (subst IsAscending (sym list) ascending)) in
    subst (λ (l : List Waiter). Ends c.args.number l (set ws c.in-Ok.place x)) (ap (λ (v : Queued). v.waiters) c.self.view_is)
    (removes ws c.args.number c.in-Ok.place ascending place)
