use Rattle.registrar_state.proofs.StateLemmas.{IsLegal-stands}
use Rattle.registrar_state.proofs.KeysLemmas.{decision_below, no_decision}
use Rattle.registrar_state.proofs.state.RegState.answer_of.Goals as goal

pub unreachable-requires : goal.unreachable-requires
unreachable-requires c =
    let h = c.requires.0 in
    let stands = c.requires.2 in
    decision_below h c.args.context c.requires.1 (IsLegal-stands c.args.self.now h stands) c.requires.3 (c.in-None.ensures h stands)

pub unreachable-requires-in-None-last : goal.unreachable-requires-in-None-last
unreachable-requires-in-None-last c =
    let h = c.requires.0 in
    no_decision h c.args.context c.in-Some.row.now c.requires.1 (c.in-Some.ensures h c.requires.2) c.in-None-last.is c.requires.3
