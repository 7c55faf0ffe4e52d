use Rattle.std.proofs.Common.{ℕ, List, ◌∙◌, sym, ap, length, arith}
use Rattle.coap_message.proofs.OptionsLemmas.{options_step, options_end}
use Rattle.coap_message.proofs.option.OptionsIterator.next.Goals as goal

pub returns-in_err-number-clause-steps : goal.returns-in_err-number-clause-steps
returns-in_err-number-clause-steps c =
    let s = c.args.self.now in
    let none = (options_end s.last s.bytes.now (sym c.in_err-number.ensures)).0 in
    rw c.from_residual.ensures (none, none)

pub invariant_of-self : goal.invariant_of-self
invariant_of-self c =
    let s = c.args.self.now in
    let option : ℕ × List ℕ = (c.in_ok-number.number, c.in_ok-number.value.now) in
    let step = options_step s.last s.bytes.now option c.in_ok-number.rest.now (sym c.in_ok-number.ensures) in
    record { whole = sym step.1 ∙ s.whole }

pub returns-clause-steps : goal.returns-clause-steps
returns-clause-steps c =
    let s = c.args.self.now in
    let option : ℕ × List ℕ = (c.in_ok-number.number, c.in_ok-number.value.now) in
    (options_step s.last s.bytes.now option c.in_ok-number.rest.now (sym c.in_ok-number.ensures)).0

pub returns-clause-goes : goal.returns-clause-goes
returns-clause-goes c =
    let s = c.args.self.now in
    let option : ℕ × List ℕ = (c.in_ok-number.number, c.in_ok-number.value.now) in
    let step = options_step s.last s.bytes.now option c.in_ok-number.rest.now (sym c.in_ok-number.ensures) in
    record { on = λ _. (tt, tt, omega (arith, ap length step.0)); keeps = tt; rests = λ _. tt }
