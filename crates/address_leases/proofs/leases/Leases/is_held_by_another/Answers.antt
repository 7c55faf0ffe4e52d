use Rattle.std.proofs.Common.{refl, sym, ◌∙◌, ap, subst, arith}
use Rattle.address_leases.specs.Grants.{IsHeldByAnother}
use Rattle.address_leases.specs.Lent.{Lent}
use Rattle.address_leases.specs.Indices.{IsTopOf}
use Rattle.address_leases.proofs.IdLemmas.{other_from_test}
use Rattle.address_leases.proofs.QueueLemmas.{not_over}
use Rattle.address_leases.proofs.IndexLemmas.{held_by_top}
use Rattle.address_leases.proofs.leases.Leases.is_held_by_another.Goals as goal

pub returns-else-eq : goal.returns-else-eq
returns-else-eq c =
    let q = c.self.inside.queue.grants in
    let is = subst (IsTopOf q c.self.inside.passed c.args.address) (sym c.get.ensures ∙ c.in-Some.is) (c.self.invariant.tops_of c.args.address) in
    let held = held_by_top q c.self.inside.passed c.args.address c.args.now c.in-Some.top c.args.id is
    (omega (arith, ap (λ (v : Lent). v.passed) c.self.view_is, c.requires))
    (not_over c.is_over.result c.in-Some.top.until c.args.now c.is_over.ensures c.if-is_over.false)
    (other_from_test c.in-Some.top.id c.args.id (sym c.eq.ensures ∙ c.if-eq.false)) in (
      (λ _. subst (λ (v : Lent). IsHeldByAnother v.grants c.args.now c.args.address c.args.id) c.self.view_is held),
      (λ _. refl),
    )
