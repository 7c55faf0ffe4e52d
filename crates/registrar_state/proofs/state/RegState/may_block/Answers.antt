use Rattle.std.proofs.lemmas.Bool.{false≢true}
use Rattle.registrar_state.proofs.StateLemmas.{IsLegal-stands}
use Rattle.registrar_state.proofs.LegalLemmas.{no_block, may_block}
use Rattle.registrar_state.proofs.state.RegState.may_block.Goals as goal

pub returns-in-None : goal.returns-in-None
returns-in-None c = λ h stands.
    (λ yes. absurd (false≢true yes), λ may. absurd (no_block h c.args.context c.args.to (IsLegal-stands c.args.self.now h stands) (c.in-None.ensures h stands) may))

pub returns-in-Some : goal.returns-in-Some
returns-in-Some c = λ h stands.
    may_block h c.args.context c.args.to c.in-Some.row.now c.is_next_end.result (IsLegal-stands c.args.self.now h stands) (c.in-Some.ensures h stands) c.is_next_end.ensures
