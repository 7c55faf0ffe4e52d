use Rattle.std.proofs.Common.{◌∙◌, ap, subst}
use Rattle.address_leases.specs.Lent.{Lent}
use Rattle.address_leases.specs.Indices.{IsFreeAnswer}
use Rattle.address_leases.proofs.plain.Plain.least_free.Goals as goal

pub returns : goal.returns
returns c =
    subst (λ gs. IsFreeAnswer gs c.args.first c.args.count c.args.now c.args.id c.first_clear.result)
    (c.as_slice.ensures.value ∙ ap (λ (v : Lent). v.grants) c.self.view_is)
    (c.first_clear.ensures c.as_slice.result.now c.args.now c.args.id c.mark.ensures.marks)
