use Rattle.std.proofs.Common.{arith}
use Rattle.turn_lock.proofs.ShareSteps.{recalls}
use Rattle.turn_lock.proofs.steps.recall.Goals as goal

pub load-requires : goal.load-requires
load-requires g c =
    let t = c.args.words.now in (
      c.requires.table,
      omega (arith, c.requires.laid.0),
      recalls g.V.Reports.report g.V.Reports.origin t.key.passes t.key.opening.value t.table_id.slots c.args.seat.now.id c.args.seat.now.me,
    )
