use Rattle.std.proofs.Common.{arith}
use Rattle.turn_lock.proofs.PassSteps.{joins}
use Rattle.turn_lock.proofs.closing.hand_in.Goals as goal

pub join_seat-requires : goal.join_seat-requires
join_seat-requires g c =
    let t = c.args.words.now in
    let mine = c.requires.seat in
    let theirs = c.requires.other in (
      c.requires.tables.0,
      c.requires.tables.1,
      theirs.2,
      omega (arith, c.requires.laid.0),
      joins g.V.Reports.report g.V.Reports.origin t.key.passes t.key.opening.value c.args.seat.now.id c.args.other.id c.args.seat.now.me.0 c.args.other.me.0 mine.0 mine.1 theirs.0 theirs.1,
    )
