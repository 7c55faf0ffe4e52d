use Rattle.std.proofs.Common.{sym, ap, ◌∙◌, arith}
use Rattle.seq_table.proofs.Steps.{joins}
use Rattle.seq_table.specs.Seats.{Table, SeatView}
use Rattle.seq_table.proofs.table.SeqTable.join.Goals as goal

pub join_seat-requires : goal.join_seat-requires
join_seat-requires c =
    let table = ap (λ (s : SeatView). s.table) c.seat.view_is ∙ c.requires.seat ∙ sym c.self.view_is in
    let other = ap (λ (s : SeatView). s.table) c.other.view_is ∙ c.requires.other ∙ sym c.self.view_is in (
      ap (λ (t : Table). t.id) table,
      ap (λ (t : Table). t.id) other,
      c.other.invariant.0,
      omega (arith, c.self.invariant.1),
      joins c.self.inside.table.shared.key.items c.seat.inside.place.id c.other.inside.place.id c.seat.inside.place.me.0 c.other.inside.place.me.0 c.seat.invariant.3,
    )
