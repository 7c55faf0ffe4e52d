use Rattle.join_history.specs.Summary.{said_by}
use Rattle.registrar_state.proofs.ReadableLemmas.{readable}
use Rattle.registrar_state.proofs.StateLemmas.{IsLegal-stands}
use Rattle.registrar_state.proofs.tests.reopened.Goals as goal

pub of_summary-requires-clause-readable : goal.of_summary-requires-clause-readable
of_summary-requires-clause-readable c =
    let h = c.requires.0 in
    let stands = c.requires.1 in
    readable h (said_by c.in_ok-summary.summary) (IsLegal-stands c.args.state.now h stands) (c.in_ok-summary.ensures h stands)

pub returns : goal.returns
returns c =
    let h = c.requires.0 in
    let stands = c.requires.1 in
    (h, c.in_ok-state.ensures.stands h (IsLegal-stands c.args.state.now h stands) (c.in_ok-summary.ensures h stands))
