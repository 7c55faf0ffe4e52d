-- One item more was read, or is missing.
use Rattle.std.proofs.Common.{◌≡◌, ℕ, suc, ◌+◌, ◌-◌, ap, sym, ◌∙◌, arith}
use Rattle.std.proofs.lemmas.Result.{err_from_is_err_and}
use Rattle.journal_text.specs.Reading.{items_at, key_of}
use Rattle.journal_text.proofs.Loops.{with_prefix, item_more, item_none}
use Rattle.journal_text.proofs.part.read_key_items.Goals as goal

pub loop-turn-preserved : goal.loop-turn-preserved
loop-turn-preserved c =
    let left = c.args.count - (c.loop-turn._turn + 1) in
    let one : c.args.count - c.loop-turn._turn ≡ suc left = omega arith in
    let more = item_more key_of 16 left c.args.end c.loop-turn.keys.items c.loop-turn.rest.now c.in_ok-key.key c.in_ok-key.after.now c.in_ok-key.ensures in
    let before = ap (λ (n : ℕ). with_prefix c.loop-turn.keys.items (items_at key_of 16 n c.args.end c.loop-turn.rest.now)) (sym one) in
    record { counted = omega arith; read = rw c.push.ensures.items (more ∙ before ∙ c.loop-turn.invariant.read) }

pub returns-in_err-key : goal.returns-in_err-key
returns-in_err-key c =
    let p = err_from_is_err_and c.from_residual.result c.from_residual.ensures.1 in
    let left = c.args.count - (c.loop-turn._turn + 1) in
    let one : c.args.count - c.loop-turn._turn ≡ suc left = omega arith in
    let none = item_none key_of 16 left c.args.end c.in_err-key.field-0.0.0 c.loop-turn.keys.items c.loop-turn.rest.now c.in_err-key.ensures in
    let before = ap (λ (n : ℕ). with_prefix c.loop-turn.keys.items (items_at key_of 16 n c.args.end c.loop-turn.rest.now)) one in
    rw (p.1, p.2) (sym c.loop-turn.invariant.read ∙ before ∙ none)
