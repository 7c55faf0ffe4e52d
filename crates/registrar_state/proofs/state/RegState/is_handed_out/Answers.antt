use Rattle.registrar_state.proofs.KeysLemmas.{spreading}
use Rattle.registrar_state.proofs.state.RegState.is_handed_out.Goals as goal

pub returns-then-is_timely : goal.returns-then-is_timely
returns-then-is_timely c = λ h stands.
    let timely = (c.is_timely.ensures h stands).0 c.if-is_timely.true in
    let is = spreading c.args.self.now h c.args.epoch c.is_spreading.result stands c.is_spreading.ensures in
    (λ yes. (timely, is.0 yes), λ may. is.1 may.1)
