use Rattle.std.proofs.Common.{◌≡◌, ◌<◌, [], All}
use Rattle.seq_table.specs.Seats.{SeatView}
use Rattle.seq_table.specs.Ends.{Gathers}
use Rattle.seq_table.proofs.table.gather.Given as goal

abbrev pub invariant-loop-other : goal.invariant-loop-other
invariant-loop-other l = record {
  table : l.place.table_id ≡ l.shared.table_id;
  empty : l.place.me.1 ≡ [];
  stands : 0 < l.place.me.0.seats;
  tables : All (λ (seat : SeatView). seat.table ≡ record { id = l.shared.table_id; bases = l.shared.key.items }) l.seats.items;
  gathers : Gathers l.place.me.0 l.seats.items l.fn.seats.items;
}

abbrev pub decreases-loop-other : goal.decreases-loop-other
decreases-loop-other l = goal.left-loop-other l
