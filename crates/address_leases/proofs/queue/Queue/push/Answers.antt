use Rattle.std.proofs.Common.{subst, ◌∷◌, map, IsPermutation}
use Rattle.std.specs.BinaryHeap.{heap_items}
use Rattle.std.specs.declared.cmp.Reverse.{Reverse}
use Rattle.std.proofs.lemmas.List.Sorted.{IsPermutation-map}
use Rattle.address_leases.specs.declared.grant.Grant.{Grant}
use Rattle.address_leases.specs.Indices.{Queued, grant_of}
use Rattle.address_leases.proofs.queue.Queue.push.Goals as goal

pub returns-clause-grants : goal.returns-clause-grants
returns-clause-grants c =
    let item : Reverse Grant = record { 0 = c.args.grant } in
    subst (λ (v : Queued). IsPermutation (c.args.grant ∷ v.grants) (map grant_of (heap_items c.push.new.self))) c.self.view_is
    (IsPermutation-map grant_of (item ∷ heap_items c.self.inside.heap) (heap_items c.push.new.self) c.in-Ok.ensures.permutation)
