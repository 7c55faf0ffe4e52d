use Rattle.registrar_state.proofs.StateLemmas.{IsLegal-stands, known_of}
use Rattle.registrar_state.proofs.state.RegState.lacks.Goals as goal

pub returns-then-is_handed_out : goal.returns-then-is_handed_out
returns-then-is_handed_out c = λ h stands.
    let out = (c.is_handed_out.ensures h stands).0 c.if-is_handed_out.true in
    let is = c.lacks.ensures h (IsLegal-stands c.args.self.now h stands) (known_of c.args.self.now h stands).pledges out.1 in
    (λ yes. (out.0, out.1, (is.0 yes).0, (is.0 yes).1), λ may. is.1 (may.2, may.3))
