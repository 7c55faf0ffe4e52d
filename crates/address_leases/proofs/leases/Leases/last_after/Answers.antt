use Rattle.std.proofs.Common.{sym, ◌∙◌, subst, Some, None}
use Rattle.address_leases.specs.Lent.{Lent}
use Rattle.address_leases.specs.Indices.{IsLastOf}
use Rattle.address_leases.proofs.LastLemmas.{last_of_first}
use Rattle.address_leases.proofs.leases.Leases.last_after.Goals as goal

pub next_last-requires : goal.next_last-requires
next_last-requires c =
    subst (λ (v : Lent). IsLastOf v.grants v.passed c.args.grant.id (Some c.in-Some.last)) c.self.view_is
    (subst (IsLastOf c.self.inside.queue.grants c.self.inside.passed c.args.grant.id) (sym c.get.ensures ∙ c.in-Some.is) (c.self.invariant.lasts_of c.args.grant.id))

pub returns-in-None-clause-grants : goal.returns-in-None-clause-grants
returns-in-None-clause-grants c =
    last_of_first c.args.self.now.grants c.args.self.now.passed c.args.grant
    (subst (λ (v : Lent). IsLastOf v.grants v.passed c.args.grant.id None) c.self.view_is
    (subst (IsLastOf c.self.inside.queue.grants c.self.inside.passed c.args.grant.id) (sym c.get.ensures ∙ c.in-None.is) (c.self.invariant.lasts_of c.args.grant.id)))
