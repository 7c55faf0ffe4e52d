use Rattle.std.proofs.Common.{arith}
use Rattle.turn_lock.proofs.WakeStep.{wakes}
use Rattle.turn_lock.proofs.steps.wake_next.Goals as goal

pub fetch_add-requires : goal.fetch_add-requires
fetch_add-requires g c =
    let t = c.args.words.now in
    let word = c.parking_word-word.ensures in (
      c.requires.table,
      omega (arith, c.requires.laid.0, c.requires.passes.1, word.1),
      wakes g.V.Reports.report g.V.Reports.origin t.key.passes t.key.opening.value t.table_id.slots c.args.seat.now.id c.parking_word-word.result c.args.seat.now.me word.0,
    )
