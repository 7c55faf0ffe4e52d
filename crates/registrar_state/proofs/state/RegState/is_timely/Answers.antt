use Rattle.registrar_state.proofs.LegalLemmas.{timely}
use Rattle.registrar_state.proofs.state.RegState.is_timely.Goals as goal

pub returns : goal.returns
returns c = λ h stands. timely c.args.self.now h c.args.time c.is_from.result stands c.is_from.ensures
