use Rattle.std.proofs.Common.{◌≡◌, All, vec_len}
use Rattle.seq_table.specs.Seats.{SeatView}
use Rattle.seq_table.proofs.tests.draw_in_turn.Given as goal

abbrev pub invariant-loop-turn : goal.invariant-loop-turn
invariant-loop-turn l = (vec_len l.seats ≡ vec_len l.initial.seats) × All (λ (seat : SeatView). seat.table ≡ l.table) l.seats.items
