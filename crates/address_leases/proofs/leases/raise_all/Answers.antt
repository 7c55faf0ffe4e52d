use Rattle.std.proofs.Common.{sym, subst, take}
use Rattle.address_leases.specs.Indices.{IsTopOf}
use Rattle.address_leases.proofs.TopsLemmas.{top_of_next}
use Rattle.address_leases.proofs.leases.raise_all.Goals as goal

pub loop-place-preserved : goal.loop-place-preserved
loop-place-preserved c = λ a.
    let g = c.at-grant.result in
    let done = take c.loop-place.place c.args.queue.now.grants in
    let raised = c.raise-top.ensures done (subst (IsTopOf done c.args.passed g.address) (sym c.get.ensures) (c.loop-place.invariant g.address)) in
    top_of_next c.args.queue.now.grants c.loop-place.place c.args.passed g c.loop-place.tops c.set.new.self c.raise-top.result a
    c.at-grant.ensures c.loop-place.invariant raised c.set.ensures.set c.set.ensures.others
