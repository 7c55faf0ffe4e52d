use Rattle.std.proofs.Common.{◌≤◌, ap, arith}
use Rattle.turn_lock.proofs.PassSteps.{splits}
use Rattle.turn_lock.proofs.new_table.split_passes.Goals as goal

pub split_seat-seat-requires : goal.split_seat-seat-requires
split_seat-seat-requires g c =
    let inv = c.loop.invariant in
    let key = c.args.words.now.key in
    let v = c.loop.first.me.0 in
    let more : 2 ≤ v.passes = omega (arith, ap (λ m. m.0.passes) inv.me) in (
      inv.table,
      omega (arith, c.requires.laid.0),
      splits g.V.Reports.report g.V.Reports.origin key.passes key.opening.value c.loop.first.id v (ap (λ m. m.0.tickets) inv.me) (ap (λ m. m.0.turn) inv.me) (ap (λ m. m.0.own) inv.me) (ap (λ m. m.0.turns) inv.me) more,
    )
