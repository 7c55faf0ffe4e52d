-- The first entry without a reading.
use Rattle.std.proofs.Common.{◌≡◌, ◌^◌, ◌-◌, ℕ, length, min, ◌∙◌, ap, arith, false-eqb}
use Rattle.journal_text.specs.Text.{entry_text}
use Rattle.journal_store.proofs.Bodies.{part_bad, err_is_not_ok, told_count}
use Rattle.journal_store.proofs.body.read_entries.Goals as goal

pub returns-in-Err-clause-fault : goal.returns-in-Err-clause-fault
returns-in-Err-clause-fault c =
    part_bad c.args.body.now c.args.log.now.items c.loop-rest.log.items c.loop-rest.rest.now c.unwrap_or-index.result c.loop-rest.invariant.part
    (λ none. false-eqb (length c.loop-rest.rest.now) 0 c.loop-rest-test.ensures (ap length none))
    (λ e more fit is. err_is_not_ok c.in-Err.field-0 (e, length (entry_text e)) (c.in-Err.ensures.only e more fit is))
    (let count : c.len.result ≡ length c.loop-rest.log.items = omega (arith, c.len.ensures, c.loop-rest.log.ok) in
    c.unwrap_or-index.ensures ∙ told_count c.try_from.result c.len.result c.try_from.ensures ∙ ap (λ (n : ℕ). min n (2 ^ 32 - 1)) count)
