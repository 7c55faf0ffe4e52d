use Rattle.registrar_state.proofs.StateLemmas.{current_none, current_some}
use Rattle.registrar_state.proofs.state.RegState.settings.Goals as goal

pub returns-in-None : goal.returns-in-None
returns-in-None c = λ h stands. current_none c.args.self.now h stands c.in-None.is

pub returns-in-Some : goal.returns-in-Some
returns-in-Some c = λ h stands. current_some c.args.self.now h c.in-Some.timed stands c.in-Some.is
