use Rattle.registrar_state.proofs.KeysLemmas.{next_set}
use Rattle.registrar_state.proofs.state.RegState.may_roll.Goals as goal

pub returns-then-is_timely : goal.returns-then-is_timely
returns-then-is_timely c = λ h stands.
    let timely = (c.is_timely.ensures h stands).0 c.if-is_timely.true in
    let next = next_set c.args.self.now h c.args.set.now c.is_next_set.result stands c.is_next_set.ensures in
    (λ yes. (timely, next.0 yes), λ may. next.1 may.1)
