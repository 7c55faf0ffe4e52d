use Rattle.std.proofs.Common.{refl, sym, ap, subst, ◌∷◌, map, ◌+◌, ◌<◌, ◌≤◌, All, IsPermutation}
use Rattle.std.specs.BinaryHeap.{heap_items}
use Rattle.std.specs.declared.cmp.Reverse.{Reverse}
use Rattle.std.proofs.lemmas.List.Sorted.{IsPermutation-map}
use Rattle.address_leases.specs.declared.grant.Grant.{Grant}
use Rattle.address_leases.specs.Indices.{Queued, grant_of}
use Rattle.address_leases.proofs.QueueLemmas.{none_over, not_over, same_first}
use Rattle.address_leases.proofs.queue.Queue.pop_over.Goals as goal

pub returns-in-Some-pop : goal.returns-in-Some-pop
returns-in-Some-pop c = (
  subst (λ (r : Reverse Grant). r.0.until + 3600 ≤ c.args.time)
      (sym (same_first (heap_items c.self.inside.heap) (heap_items c.pop.new.self) c.in-Some.first.now c.in-Some-pop.grant
      c.in-Some.ensures.lookup c.in-Some-pop.ensures.top c.in-Some-pop.ensures.permutation))
      (c.is_over.ensures.0 c.if-is_over.true),
  subst
      (λ (v : Queued). IsPermutation v.grants (c.in-Some-pop.grant.0 ∷ map grant_of (heap_items c.pop.new.self)))
      c.self.view_is
      (IsPermutation-map grant_of (heap_items c.self.inside.heap) (c.in-Some-pop.grant ∷ heap_items c.pop.new.self) c.in-Some-pop.ensures.permutation),
  ap (λ (v : Queued). v.room + 1) c.self.view_is,
)

pub returns-else-is_over : goal.returns-else-is_over
returns-else-is_over c = (
  refl,
  subst
      (λ (v : Queued). All (λ g. c.args.time < g.until + 3600) v.grants)
      c.self.view_is
      (none_over c.args.time c.in-Some.first.now (heap_items c.self.inside.heap)
      (not_over c.is_over.result c.in-Some.first.now.0.until c.args.time c.is_over.ensures c.if-is_over.false)
      (c.in-Some.ensures.greatest c.self.invariant.ordered)),
)
