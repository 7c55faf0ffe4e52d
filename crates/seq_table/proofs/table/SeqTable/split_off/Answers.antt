use Rattle.std.proofs.Common.{◌<◌, sym, ap, ◌∙◌, arith}
use Rattle.seq_table.proofs.Steps.{splits}
use Rattle.seq_table.specs.Seats.{Table, SeatView}
use Rattle.seq_table.proofs.table.SeqTable.split_off.Goals as goal

pub split_seat-place-requires : goal.split_seat-place-requires
split_seat-place-requires c =
    let tables = ap (λ (s : SeatView). s.table) c.seat.view_is ∙ c.requires.seat ∙ sym c.self.view_is in
    let left : 0 < c.seat.inside.place.me.0.splits = omega (arith, ap (λ (s : SeatView). s.splits) c.seat.view_is, c.requires.left) in
    (ap (λ (t : Table). t.id) tables, omega (arith, c.self.invariant.1), splits c.self.inside.table.shared.key.items c.seat.inside.place.id c.seat.inside.place.me.0 left c.seat.invariant.3)
