use Rattle.std.proofs.Common.{refl}
use Rattle.std.proofs.lemmas.Bool.{false≢true}
use Rattle.registrar_state.proofs.StateLemmas.{IsLegal-stands}
use Rattle.registrar_state.proofs.LegalLemmas.{all_fresh, taken_not_fresh, old_not_fresh}
use Rattle.registrar_state.proofs.state.RegState.is_fresh.Goals as goal

pub returns-in-None : goal.returns-in-None
returns-in-None c = λ h stands.
    (λ _. all_fresh h c.args.context c.args.number (IsLegal-stands c.args.self.now h stands) (c.in-None.ensures h stands), λ _. refl)

pub returns-in-Taken : goal.returns-in-Taken
returns-in-Taken c = λ h stands.
    (λ yes. absurd (false≢true yes), λ fresh. absurd (taken_not_fresh h c.args.context c.args.number (c.in-Taken.ensures h c.args.context (c.in-Some.ensures h stands)) fresh))

pub returns-in-Old : goal.returns-in-Old
returns-in-Old c = λ h stands.
    (λ yes. absurd (false≢true yes), λ fresh. absurd (old_not_fresh h c.args.context c.args.number (c.in-Old.ensures h c.args.context (c.in-Some.ensures h stands)) fresh))
