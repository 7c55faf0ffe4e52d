use Rattle.registrar_state.proofs.StateLemmas.{row_none, row_some}
use Rattle.registrar_state.proofs.state.RegState.row.Goals as goal

pub returns-in-None : goal.returns-in-None
returns-in-None c = λ h stands. row_none c.args.self.now h c.args.context stands c.in-None.ensures

pub returns-in-Some : goal.returns-in-Some
returns-in-Some c = λ h stands. row_some c.args.self.now h c.args.context c.in-Some.row.now stands c.in-Some.ensures.0 c.in-Some.ensures.1
