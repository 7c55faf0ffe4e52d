use Rattle.std.proofs.Common.{ℕ, List, ◌∙◌, sym}
use Rattle.coap_message.proofs.OptionsLemmas.{fewer, options_step, options_end}
use Rattle.coap_message.proofs.option.skip_options.Goals as goal

pub returns : goal.returns
returns c =
    sym (options_end c.loop-number.last c.loop-number.rest.now (sym c.in_default.ensures)).1 ∙ c.loop-number.invariant

pub loop-number-smaller : goal.loop-number-smaller
loop-number-smaller c =
    let option : ℕ × List ℕ = (c.in-Some.number, c.in-Some.field-0-1.now) in
    fewer c.loop-number.last c.loop-number.rest.now option c.in-Some.after.now (sym c.in-Some.ensures)

pub loop-number-preserved : goal.loop-number-preserved
loop-number-preserved c =
    let option : ℕ × List ℕ = (c.in-Some.number, c.in-Some.field-0-1.now) in
    let step = options_step c.loop-number.last c.loop-number.rest.now option c.in-Some.after.now (sym c.in-Some.ensures) in
    sym step.1 ∙ c.loop-number.invariant
