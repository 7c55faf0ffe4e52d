use Rattle.turn_lock.proofs.Taking.{takes_turn}
use Rattle.turn_lock.proofs.steps.take_turn.Goals as goal

pub returns-clause-took : goal.returns-clause-took
returns-clause-took g c =
    takes_turn g.V.Reports.report g.V.Reports.origin c.args.seat.now.me c.draw-ticket.new.seat.me c.wait.new.seat.me c.move_out.new.seat.me c.draw-ticket.result c.move_out.result
    c.draw-ticket.ensures.me c.wait.ensures.turn c.move_out.ensures.value c.move_out.ensures.me
