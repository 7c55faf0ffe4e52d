use Rattle.std.proofs.Common.{sym, ◌∙◌, ap, subst, arith, filter, IsPermutation}
use Rattle.std.proofs.lemmas.List.Sorted.{IsPermutation-trans}
use Rattle.address_leases.specs.Indices.{Queued}
use Rattle.address_leases.specs.Steps.{is_kept}
use Rattle.address_leases.proofs.QueueLemmas.{popped, not_popped}
use Rattle.address_leases.proofs.queue.Queue.forget_over.Goals as goal

pub loop-smaller : goal.loop-smaller
loop-smaller c =
    let p = popped c.args.time c.loop.self c.pop_over.new.self c.pop_over.result (sym c.is_some.ensures ∙ c.loop-test.true) c.pop_over.ensures in
    omega (arith, p.1)

pub loop-preserved : goal.loop-preserved
loop-preserved c =
    let p = popped c.args.time c.loop.self c.pop_over.new.self c.pop_over.result (sym c.is_some.ensures ∙ c.loop-test.true) c.pop_over.ensures in
    (IsPermutation-trans _ _ _ c.loop.invariant.0 p.0, omega (arith, p.1, p.2, c.loop.invariant.1))

pub returns-clause-grants : goal.returns-clause-grants
returns-clause-grants c =
    let p = not_popped c.args.time c.loop.self c.pop_over.new.self c.pop_over.result (sym c.is_some.ensures ∙ c.loop-test.false) c.pop_over.ensures in
    subst (IsPermutation (filter (is_kept c.args.time) c.args.self.now.grants))
    (p.1 ∙ sym (ap (λ (v : Queued). v.grants) p.0))
    c.loop.invariant.0
