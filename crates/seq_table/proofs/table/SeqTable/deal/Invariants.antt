use Rattle.std.proofs.Common.{◌≡◌, ◌-◌, replicate}
use Rattle.seq_table.specs.Seats.{new_seat}
use Rattle.seq_table.proofs.table.SeqTable.deal.Given as goal

abbrev pub invariant-loop : goal.invariant-loop
invariant-loop l = (l.first ≡ new_seat l.self (65535 - l.counter)) × (l.dealt.items ≡ replicate (l.counter - 1) (new_seat l.self 0))
