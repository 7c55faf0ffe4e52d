use Rattle.std.proofs.Common.{arith}
use Rattle.turn_lock.proofs.DrawStep.{draws_as}
use Rattle.turn_lock.proofs.steps.draw.Goals as goal

pub fetch_add-requires : goal.fetch_add-requires
fetch_add-requires g c =
    let t = c.args.words.now in
    let idle = c.requires.idle in (
      c.requires.table,
      omega (arith, c.requires.laid.0),
      draws_as g.V.Reports.report g.V.Reports.origin t.key.passes t.key.opening.value t.table_id.slots c.args.seat.now.id c.args.seat.now.me idle.2 idle.0 idle.1 c.requires.turns,
    )
