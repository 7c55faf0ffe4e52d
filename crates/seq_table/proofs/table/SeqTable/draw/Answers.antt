use Rattle.std.proofs.Common.{◌<◌, sym, ap, ◌∙◌, arith, length}
use Rattle.seq_table.proofs.Steps.{draws_as}
use Rattle.seq_table.specs.Seats.{Table, SeatView}
use Rattle.seq_table.proofs.table.SeqTable.draw.Goals as goal

pub fetch_add-number-requires : goal.fetch_add-number-requires
fetch_add-number-requires c =
    let t = c.self.inside.table.shared in
    let me = c.seat.inside.place.me in
    let tables = ap (λ (s : SeatView). s.table) c.seat.view_is ∙ c.requires.seat ∙ sym c.self.view_is in
    let bases = ap (λ (x : Table). x.bases) tables ∙ sym c.self.invariant.0 in
    let inside : c.args.context < length t.key.items = omega (arith, ap length c.self.invariant.0, ap (λ (x : Table). length x.bases) c.self.view_is, c.requires.context) in (
      ap (λ (x : Table). x.id) tables,
      omega (arith, c.self.invariant.1, ap length c.self.invariant.0),
      draws_as t.key.items t.table_id.slots c.seat.inside.place.id c.args.context me c.seat.invariant.0 inside (omega arith) bases,
    )
