-- One item more was read.
use Rattle.std.proofs.Common.{◌≡◌, ℕ, suc, ◌+◌, ◌-◌, ap, sym, ◌∙◌, arith}
use Rattle.journal_text.specs.Reading.{items_at, id_of}
use Rattle.journal_text.proofs.Loops.{with_prefix, item_more}
use Rattle.journal_text.proofs.part.read_id_items.Goals as goal

pub loop-turn-preserved : goal.loop-turn-preserved
loop-turn-preserved c =
    let left = c.args.count - (c.loop-turn._turn + 1) in
    let one : c.args.count - c.loop-turn._turn ≡ suc left = omega arith in
    let more = item_more id_of 8 left c.args.end c.loop-turn.ids.items c.loop-turn.rest.now c.in_ok-id.id c.in_ok-id.after.now c.in_ok-id.ensures in
    let before = ap (λ (n : ℕ). with_prefix c.loop-turn.ids.items (items_at id_of 8 n c.args.end c.loop-turn.rest.now)) (sym one) in
    record { counted = omega arith; read = rw c.push.ensures.items (more ∙ before ∙ c.loop-turn.invariant.read) }
