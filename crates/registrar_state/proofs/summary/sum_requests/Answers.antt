use Rattle.std.proofs.Common.{sym, ◌∙◌}
use Rattle.registrar_state.proofs.SummaryLemmas.{no_number, has_bits, has_last}
use Rattle.registrar_state.proofs.summary.sum_requests.Goals as goal

pub returns-in-None-parts : goal.returns-in-None-parts
returns-in-None-parts c = λ h context is. no_number h context c.args.row.now is (sym c.parts.ensures.parts ∙ c.in-None-parts.is)

pub returns-in-Some-parts : goal.returns-in-Some-parts
returns-in-Some-parts c = λ h context is.
    c.sum_request.ensures h context is.numbers is.are_numbers
    (has_bits h context c.args.row.now c.in-Some-parts.parts is (sym c.parts.ensures.parts ∙ c.in-Some-parts.is))
    (has_last h context c.args.row.now c.in-Some.last is c.in-Some.is)
