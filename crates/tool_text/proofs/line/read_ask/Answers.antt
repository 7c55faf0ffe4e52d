use Rattle.tool_text.proofs.AskLemmas.{ask_fields, both_cuts, line_from_cuts, no_first_cut, no_second_cut}
use Rattle.tool_text.proofs.line.read_ask.Goals as goal

pub returns-in_err-time-clause-none : goal.returns-in_err-time-clause-none
returns-in_err-time-clause-none c =
    rw c.from_residual.ensures (λ line is. no_first_cut c.args.fields.now line c.in_err-time.ensures.none is)

pub returns-in_err-id-clause-none : goal.returns-in_err-id-clause-none
returns-in_err-id-clause-none c =
    let time = c.in_ok-time.ensures in
    rw c.from_residual-in_err-id.ensures (λ line is.
    no_second_cut _ _ c.in_ok-time.fields.now line time.parts time.first c.in_err-id.ensures.none is)

pub returns-in_err-read_number-clause-none : goal.returns-in_err-read_number-clause-none
returns-in_err-read_number-clause-none c =
    let time = c.in_ok-time.ensures in
    let id = c.in_ok-id.ensures in
    rw c.from_residual-in_err-read_number.ensures (λ line is.
    let said = ask_fields c.args.fields.now line is in
    let cuts = both_cuts _ _ _ _ _ said.0 said.1 said.2 time.parts time.first id.parts id.first said.3 in
    c.in_err-read_number.ensures.none said.0 said.3.time_fits cuts.0)

pub returns-in_err-read_id-clause-none : goal.returns-in_err-read_id-clause-none
returns-in_err-read_id-clause-none c =
    let time = c.in_ok-time.ensures in
    let id = c.in_ok-id.ensures in
    rw c.from_residual-in_err-read_id.ensures (λ line is.
    let said = ask_fields c.args.fields.now line is in
    let cuts = both_cuts _ _ _ _ _ said.0 said.1 said.2 time.parts time.first id.parts id.first said.3 in
    c.in_err-read_id.ensures.none said.1 cuts.1)

pub returns-in_err-read_number-2-clause-none : goal.returns-in_err-read_number-2-clause-none
returns-in_err-read_number-2-clause-none c =
    let time = c.in_ok-time.ensures in
    let id = c.in_ok-id.ensures in
    rw c.from_residual-in_err-read_number-2.ensures (λ line is.
    let said = ask_fields c.args.fields.now line is in
    let cuts = both_cuts _ _ _ _ _ said.0 said.1 said.2 time.parts time.first id.parts id.first said.3 in
    c.in_err-read_number-2.ensures.none said.2 said.3.number_fits cuts.2)

pub returns-clause-found : goal.returns-clause-found
returns-clause-found c =
    let time = c.in_ok-read_number.ensures in
    let number = c.in_ok-read_number-2.ensures in
    line_from_cuts _ _ _ _ _ _ _ _ c.in_ok-time.ensures.parts c.in_ok-id.ensures.parts time.small time.found c.in_ok-read_id.ensures.found number.small number.found
