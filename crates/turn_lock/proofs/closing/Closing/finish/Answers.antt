use Rattle.std.proofs.Common.{subst}
use Rattle.turn_lock.specs.Locks.{ClosingView}
use Rattle.turn_lock.specs.Seated.{lock_of}
use Rattle.turn_lock.proofs.Ending.{Finished, finishes}
use Rattle.turn_lock.proofs.closing.Closing.finish.Goals as goal

pub returns-clause-grown : goal.returns-clause-grown
returns-clause-grown g c =
    let t = c.self.inside.table.shared in
    let P : ClosingView g.row.V.Denot → Type 0 = λ x. Finished g.V.Reports.report g.V.Reports.origin t.key.passes x.lock.opening c.take_out.result x.passes in
    (subst P c.self.view_is (finishes g.V.Reports.report g.V.Reports.origin t.key.passes t.key.opening.value (lock_of t.table_id t.key) c.self.inside.seat.me c.take_out.result c.self.invariant.4 c.take_out.ensures)).follows.0

pub returns-clause-origin : goal.returns-clause-origin
returns-clause-origin g c =
    let t = c.self.inside.table.shared in
    let P : ClosingView g.row.V.Denot → Type 0 = λ x. Finished g.V.Reports.report g.V.Reports.origin t.key.passes x.lock.opening c.take_out.result x.passes in
    (subst P c.self.view_is (finishes g.V.Reports.report g.V.Reports.origin t.key.passes t.key.opening.value (lock_of t.table_id t.key) c.self.inside.seat.me c.take_out.result c.self.invariant.4 c.take_out.ensures)).follows.1

pub returns-clause-seen : goal.returns-clause-seen
returns-clause-seen g c =
    let t = c.self.inside.table.shared in
    let P : ClosingView g.row.V.Denot → Type 0 = λ x. Finished g.V.Reports.report g.V.Reports.origin t.key.passes x.lock.opening c.take_out.result x.passes in
    (subst P c.self.view_is (finishes g.V.Reports.report g.V.Reports.origin t.key.passes t.key.opening.value (lock_of t.table_id t.key) c.self.inside.seat.me c.take_out.result c.self.invariant.4 c.take_out.ensures)).seen

pub returns-clause-reports : goal.returns-clause-reports
returns-clause-reports g c =
    let t = c.self.inside.table.shared in
    let P : ClosingView g.row.V.Denot → Type 0 = λ x. Finished g.V.Reports.report g.V.Reports.origin t.key.passes x.lock.opening c.take_out.result x.passes in
    (subst P c.self.view_is (finishes g.V.Reports.report g.V.Reports.origin t.key.passes t.key.opening.value (lock_of t.table_id t.key) c.self.inside.seat.me c.take_out.result c.self.invariant.4 c.take_out.ensures)).reports
