use Rattle.std.proofs.Common.{ap, ◌∙◌, subst}
use Rattle.turn_lock.specs.Report.{GrowsTo}
use Rattle.turn_lock.specs.Locks.{LockView, PassView}
use Rattle.turn_lock.proofs.Seating.{has_taken, taken_view}
use Rattle.turn_lock.proofs.lock.TurnLock.take.Goals as goal

pub invariant_of-pass : goal.invariant_of-pass
invariant_of-pass g c =
    let pass = c.pass.inside in
    let idle = ap (λ (p : PassView g.row.V.Denot). p.has_turn) c.pass.view_is ∙ c.requires.ended in
    (has_taken g.V.Reports.report g.V.Reports.origin pass.local.start.value pass.local.turns c.take_turn-value.result pass.seat.me c.take_turn-value.new.seat.me c.pass.invariant idle c.block_without_turns.ensures c.take_turn-value.ensures.took).seated

pub returns-clause-pass : goal.returns-clause-pass
returns-clause-pass g c =
    let pass = c.pass.inside in
    taken_view g.V.Reports.report g.V.Reports.origin pass.local.start.value pass.seat.table_id c.take_turn-value.new.seat.table_id c.take_turn-value.result pass.seat.me c.take_turn-value.new.seat.me c.args.pass.now c.take_turn-value.ensures.table c.pass.view_is c.take_turn-value.ensures.took

pub returns-clause-grown : goal.returns-clause-grown
returns-clause-grown g c =
    let pass = c.pass.inside in
    let idle = ap (λ (p : PassView g.row.V.Denot). p.has_turn) c.pass.view_is ∙ c.requires.ended in
    let P : PassView g.row.V.Denot → Type 0 = λ p. GrowsTo (g.V.Reports.report p.seen) (g.V.Reports.report c.take_turn-value.result) in
    subst P c.pass.view_is (has_taken g.V.Reports.report g.V.Reports.origin pass.local.start.value pass.local.turns c.take_turn-value.result pass.seat.me c.take_turn-value.new.seat.me c.pass.invariant idle c.block_without_turns.ensures c.take_turn-value.ensures.took).follows.0

pub returns-clause-origin : goal.returns-clause-origin
returns-clause-origin g c =
    let pass = c.pass.inside in
    let idle = ap (λ (p : PassView g.row.V.Denot). p.has_turn) c.pass.view_is ∙ c.requires.ended in
    let taken = has_taken g.V.Reports.report g.V.Reports.origin pass.local.start.value pass.local.turns c.take_turn-value.result pass.seat.me c.take_turn-value.new.seat.me c.pass.invariant idle c.block_without_turns.ensures c.take_turn-value.ensures.took in
    taken.origin_is ∙ ap (λ (l : LockView g.row.V.Denot). g.V.Reports.origin l.opening) (ap (λ (p : PassView g.row.V.Denot). p.lock) c.pass.view_is ∙ c.requires.lock)
