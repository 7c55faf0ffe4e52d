use Rattle.std.proofs.Common.{sym, ◌∙◌, ap, arith}
use Rattle.address_leases.specs.Lent.{Lent}
use Rattle.address_leases.proofs.LastLemmas.{live_known, not_live_none, not_live_over}
use Rattle.address_leases.proofs.leases.Leases.live.Goals as goal

pub returns-in-None : goal.returns-in-None
returns-in-None c =
    not_live_none c.args.self.now c.self.inside.pledges.entries c.args.id c.args.now
    (sym (ap (λ (v : Lent). v.lasts) c.self.view_is))
    (sym c.get.ensures ∙ c.in-None.is)

pub returns-then-last-now : goal.returns-then-last-now
returns-then-last-now c =
    live_known c.args.self.now.lasts c.self.inside.pledges.entries c.args.id c.in-Some.last c.args.now
    (sym (ap (λ (v : Lent). v.lasts) c.self.view_is))
    (sym c.get.ensures ∙ c.in-Some.is)
    (omega arith)

pub returns-else-last-now : goal.returns-else-last-now
returns-else-last-now c =
    not_live_over c.args.self.now c.self.inside.pledges.entries c.args.id c.in-Some.last c.args.now
    (sym (ap (λ (v : Lent). v.lasts) c.self.view_is))
    (sym c.get.ensures ∙ c.in-Some.is)
    (omega arith)
