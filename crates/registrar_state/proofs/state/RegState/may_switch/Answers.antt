use Rattle.registrar_state.proofs.StateLemmas.{IsLegal-stands, known_of}
use Rattle.registrar_state.proofs.KeysLemmas.{all_served_known}
use Rattle.registrar_state.proofs.state.RegState.may_switch.Goals as goal

pub returns-then-is_handed_out : goal.returns-then-is_handed_out
returns-then-is_handed_out c = λ h stands.
    let out = (c.is_handed_out.ensures h stands).0 c.if-is_handed_out.true in
    let legal = IsLegal-stands c.args.self.now h stands in
    let first = c.first_waiting.ensures h c.args.epoch legal (known_of c.args.self.now h stands).pledges out.1 out.0.not_before in
    let is = all_served_known c.args.self.now h c.args.time c.args.epoch c.first_waiting.result c.is_none.result stands legal out.1 first c.is_none.ensures in
    (λ yes. (out.0, out.1, is.0 yes), λ may. is.1 may.2)
