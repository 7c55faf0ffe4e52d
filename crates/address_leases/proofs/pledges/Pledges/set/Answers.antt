use Rattle.std.proofs.Common.{sym, ◌∙◌, ap}
use Rattle.address_leases.specs.Indices.{Indexed, known_of}
use Rattle.address_leases.proofs.IdLemmas.{test_from_other}
use Rattle.address_leases.proofs.pledges.Pledges.set.Goals as goal

pub returns-clause-others : goal.returns-clause-others
returns-clause-others c = λ p other.
    c.put.ensures.others p.0 (test_from_other c.args.id p (λ same. other (sym same)))
    ∙ ap (λ (v : Indexed). known_of v.entries p) c.self.view_is
