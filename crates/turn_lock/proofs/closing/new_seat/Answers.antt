use Rattle.std.proofs.Common.{arith}
use Rattle.turn_lock.specs.Views.{first_view}
use Rattle.turn_lock.proofs.ShareSteps.{comes}
use Rattle.turn_lock.proofs.closing.new_seat.Goals as goal

pub load_new_seat-seat-requires : goal.load_new_seat-seat-requires
load_new_seat-seat-requires g c =
    let t = c.args.words.now in (
      omega (arith, c.requires.laid.0),
      comes g.V.Reports.report g.V.Reports.origin t.key.passes t.key.opening.value t.table_id.slots (first_view t.key.passes t.key.opening.value),
    )
