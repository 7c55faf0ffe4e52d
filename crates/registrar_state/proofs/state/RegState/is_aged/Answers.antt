use Rattle.std.proofs.Common.{refl}
use Rattle.registrar_state.proofs.StateLemmas.{IsLegal-stands}
use Rattle.registrar_state.proofs.ReleaseLemmas.{aged_past}
use Rattle.registrar_state.proofs.state.RegState.is_aged.Goals as goal

pub returns-in-None : goal.returns-in-None
returns-in-None c = λ h stands.
    (λ _. aged_past h c.args.context c.args.pledge c.args.time (IsLegal-stands c.args.self.now h stands) (c.in-None.ensures h stands), λ _. refl)

pub returns-in-Some : goal.returns-in-Some
returns-in-Some c = λ h stands. c.is_aged.ensures h c.args.context (IsLegal-stands c.args.self.now h stands) (c.in-Some.ensures h stands)
