use Rattle.registrar_state.proofs.KeysLemmas.{no_decision, told_of}
use Rattle.registrar_state.proofs.state.RegState.last_of.Goals as goal

pub returns-in-None : goal.returns-in-None
returns-in-None c = λ h stands e. no_decision h c.args.context c.enrolled.result.now e (c.enrolled.ensures h stands) c.in-None.is

pub returns-in-Some : goal.returns-in-Some
returns-in-Some c = λ h stands. told_of h c.args.context c.enrolled.result.now c.in-Some.last (c.enrolled.ensures h stands) c.in-Some.is
