use Rattle.turn_lock.specs.History.{own_over}
use Rattle.turn_lock.proofs.Orders.{ordered, raise_apart}
use Rattle.turn_lock.proofs.laws.addition_laws.Goals as goal

pub returns-clause-order : goal.returns-clause-order
returns-clause-order g c opening final passes is = ordered g.V.Reports.report g.V.Reports.origin opening final passes is

pub returns-clause-first : goal.returns-clause-first
returns-clause-first g c opening final passes is =
    raise_apart g.V.Reports.report g.V.Reports.origin (λ value. (g.V.Reports.report value).first) (λ u v follows. follows.0.1) (own_over passes)
    (ordered g.V.Reports.report g.V.Reports.origin opening final passes is)

pub returns-clause-second : goal.returns-clause-second
returns-clause-second g c opening final passes is =
    raise_apart g.V.Reports.report g.V.Reports.origin (λ value. (g.V.Reports.report value).second) (λ u v follows. follows.0.2) (own_over passes)
    (ordered g.V.Reports.report g.V.Reports.origin opening final passes is)
