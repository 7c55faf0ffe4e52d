use Rattle.std.proofs.Common.{ap, arith}
use Rattle.address_leases.specs.Lent.{Lent}
use Rattle.address_leases.proofs.IndexLemmas.{passed_indices}
use Rattle.address_leases.proofs.leases.Leases.pass.Goals as goal

pub invariant_of-self : goal.invariant_of-self
invariant_of-self c =
    passed_indices c.self.inside.queue c.forget_over.new.self c.self.inside.tops c.self.inside.pledges c.self.inside.passed c.args.time
    c.self.invariant (omega (arith, ap (λ (v : Lent). v.passed) c.self.view_is, c.requires))
    c.forget_over.ensures.grants c.forget_over.ensures.room
