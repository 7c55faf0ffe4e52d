use Rattle.std.proofs.Common.{arith}
use Rattle.turn_lock.proofs.LookStep.{looks_as}
use Rattle.turn_lock.proofs.steps.look.Goals as goal

pub load-requires : goal.load-requires
load-requires g c =
    let t = c.args.words.now in
    let waits = c.requires.waits in (
      c.requires.table,
      omega (arith, c.requires.laid.0),
      looks_as g.V.Reports.report g.V.Reports.origin t.key.passes t.key.opening.value t.table_id.slots c.args.seat.now.id c.args.ticket c.args.seat.now.me waits.2 waits.0 waits.1,
    )
