use Rattle.std.proofs.Common.{◌≡◌, ℕ, ◌+◌, ◌-◌, ◌≤◌, List, ◌∷◌, [], ◌++◌, replicate, ap, ◌∙◌, arith}
use Rattle.std.proofs.lemmas.List.{replicate_more}
use Rattle.seq_table.specs.Seats.{Table, SeatView, new_seat, with_one_split_less}
use Rattle.seq_table.proofs.table.SeqTable.deal.Goals as goal

one_more : (table : Table) (n : ℕ) (dealt more : List SeatView) (new : SeatView) → 1 ≤ n → dealt ≡ replicate (n - 1) (new_seat table 0) → new ≡ new_seat table 0 → more ≡ dealt ++ new ∷ [] → more ≡ replicate (n + 1 - 1) (new_seat table 0)
one_more table n dealt more new one was is cut =
    let count : n - 1 + 1 ≡ n + 1 - 1 = omega arith in
    cut ∙ (λ i. was i ++ is i ∷ []) ∙ replicate_more (n - 1) (new_seat table 0) ∙ ap (λ (k : ℕ). replicate k (new_seat table 0)) count

one_less : (table : Table) (n : ℕ) (first new : SeatView) → first ≡ new_seat table (65535 - n) → new ≡ with_one_split_less first → new ≡ new_seat table (65535 - (n + 1))
one_less table n first new was is =
    let less : 65535 - n - 1 ≡ 65535 - (n + 1) = omega arith in
    is ∙ ap with_one_split_less was ∙ ap (new_seat table) less

pub loop-preserved : goal.loop-preserved
loop-preserved c =
    let table = c.args.self.now in (
      one_less table c.loop.counter c.loop.first c.split_off.new.seat c.loop.invariant.0 c.split_off.ensures.seat,
      one_more table c.loop.counter c.loop.dealt.items c.push.new.self.items c.split_off.result (omega arith) c.loop.invariant.1 c.split_off.ensures.new c.in_ok-push.ensures.items,
    )
