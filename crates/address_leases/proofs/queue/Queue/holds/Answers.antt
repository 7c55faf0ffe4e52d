use Rattle.std.proofs.Common.{◌∙◌, ap, subst, ◌↔◌, IsTrue, map}
use Rattle.address_leases.specs.Grants.{Holds}
use Rattle.address_leases.specs.Indices.{Queued, grant_of}
use Rattle.address_leases.proofs.QueueLemmas.{holds_from_any}
use Rattle.address_leases.proofs.queue.Queue.holds.Goals as goal

pub returns : goal.returns
returns c =
    let items = c.as_slice.result.now in
    let same = holds_from_any items c.args.now c.args.address c.args.id in
    subst
    (λ gs. IsTrue c.any_holds.result ↔ Holds gs c.args.now c.args.address c.args.id)
    (ap (map grant_of) c.as_slice.ensures.value ∙ ap (λ (v : Queued). v.grants) c.self.view_is) (
      (λ is. same.0 (c.any_holds.ensures.0 is)),
      (λ held. c.any_holds.ensures.1 (same.1 held)),
    )
