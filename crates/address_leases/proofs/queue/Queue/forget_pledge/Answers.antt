use Rattle.std.proofs.Common.{◌≡◌, sym, ◌∙◌, ap, subst, map, filter, IsPermutation, rules}
use Rattle.std.specs.BinaryHeap.{heap_items}
use Rattle.std.proofs.lemmas.Fn.{filter_same}
use Rattle.std.proofs.lemmas.List.Sorted.{IsPermutation-map}
use Rattle.address_leases.specs.Indices.{Queued, grant_of}
use Rattle.address_leases.specs.Steps.{is_of_another}
use Rattle.address_leases.proofs.QueueLemmas.{filter-grants}
use Rattle.address_leases.proofs.queue.Queue.forget_pledge.Goals as goal

pub returns-clause-grants : goal.returns-clause-grants
returns-clause-grants c =
    let f = c.retain.ensures.filtered in
    let kept_is : f.0 ≡ filter (λ r. is_of_another c.args.id r.0) (heap_items c.self.inside.heap) =
    filter_same _ (λ r. is_of_another c.args.id r.0) _ (λ x b f' k. search rules) (heap_items c.self.inside.heap) f.0 f.1 in
    let moved = IsPermutation-map grant_of f.0 (heap_items c.retain.new.self) f.2 in
    let same = filter-grants (is_of_another c.args.id) (heap_items c.self.inside.heap) in
    subst
    (λ (v : Queued). IsPermutation (filter (is_of_another c.args.id) v.grants) (map grant_of (heap_items c.retain.new.self)))
    c.self.view_is
    (subst (λ l. IsPermutation l (map grant_of (heap_items c.retain.new.self))) (ap (map grant_of) kept_is ∙ sym same) moved)
