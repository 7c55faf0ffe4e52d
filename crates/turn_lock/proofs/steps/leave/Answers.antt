use Rattle.std.proofs.Common.{arith}
use Rattle.turn_lock.proofs.LeaveStep.{leaves}
use Rattle.turn_lock.proofs.steps.leave.Goals as goal

pub fetch_add-requires : goal.fetch_add-requires
fetch_add-requires g c =
    let t = c.args.words.now in (
      c.requires.table,
      omega (arith, c.requires.laid.0),
      leaves g.V.Reports.report g.V.Reports.origin t.key.passes t.key.opening.value t.table_id.slots c.args.seat.now.id c.args.seat.now.me c.args.value.now.value c.requires.turn c.requires.last c.requires.back,
    )
