use Rattle.registrar_state.proofs.StateLemmas.{known_of}
use Rattle.registrar_state.proofs.state.RegState.phase.Goals as goal

pub returns : goal.returns
returns c = λ h stands. (known_of c.args.self.now h stands).keys
