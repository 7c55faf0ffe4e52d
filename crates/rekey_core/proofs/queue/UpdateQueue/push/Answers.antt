use Rattle.std.proofs.Common.{rules, ◌≡◌, ◌<◌, ℕ, List, [], ◌∷◌, ◌++◌, Contains, length, set, ap, sym, subst, ◌∙◌, arith}
use Rattle.rekey_core.specs.declared.waiter.Waiter.{Waiter}
use Rattle.rekey_core.specs.Queue.{Queued, IsQueue}
use Rattle.rekey_core.proofs.QueueLemmas.{pushed}
use Rattle.rekey_core.proofs.queue.UpdateQueue.push.Goals as goal

pub invariant_of-self : goal.invariant_of-self
invariant_of-self c =
    let q = c.self.inside in
    let ws = q.waiters.items in
    let x : Waiter = record { number = c.args.number; until = c.args.until } in
    let same = ap (λ (v : Queued). v.waiters) c.self.view_is in
    let limit = ap (λ (v : Queued). v.limit) c.self.view_is in
    let above = subst (λ (l : List Waiter). (w : Waiter) → Contains l w → w.number < c.args.number) (sym same) c.requires.above in
    let small : length ws < q.limit = let lengths = ap length same in omega (arith, lengths, limit, c.requires.room) in
    let place : c.len.result ≡ length ws = search rules in
    let ends_are : c.set.new.self ≡ set q.ends (length ws) c.args.until = c.set.ensures ∙ ap (λ (k : ℕ). set q.ends k c.args.until) place in
    let is = pushed ws q.ends q.limit x c.self.invariant.0 above small in
    let is_new = subst (λ (e : List ℕ). IsQueue (ws ++ x ∷ []) e q.limit) (sym ends_are) is in (
      subst (λ (l : List Waiter). IsQueue l c.set.new.self q.limit) (sym c.push_reserved.ensures.items) is_new,
      omega (arith, c.push_reserved.ensures.capacity, c.self.invariant.1),
    )
