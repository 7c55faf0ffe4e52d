use Rattle.std.proofs.Common.{◌∙◌, ap, subst, ◌↔◌, IsTrue, map}
use Rattle.address_leases.specs.Grants.{IsHeldByAnother}
use Rattle.address_leases.specs.Indices.{Queued, grant_of}
use Rattle.address_leases.proofs.QueueLemmas.{another_from_any}
use Rattle.address_leases.proofs.queue.Queue.holds_for_another.Goals as goal

pub returns : goal.returns
returns c =
    let items = c.as_slice.result.now in
    let same = another_from_any items c.args.now c.args.address c.args.id in
    subst
    (λ gs. IsTrue c.any_holds_for_another.result ↔ IsHeldByAnother gs c.args.now c.args.address c.args.id)
    (ap (map grant_of) c.as_slice.ensures.value ∙ ap (λ (v : Queued). v.grants) c.self.view_is) (
      (λ is. same.0 (c.any_holds_for_another.ensures.0 is)),
      (λ held. c.any_holds_for_another.ensures.1 (same.1 held)),
    )
