use Rattle.std.proofs.Common.{ℕ, MatchOption, subst}
use Rattle.join_history.specs.Phases.{IsSpreading}
use Rattle.join_history.specs.Times.{moment}
use Rattle.join_history.specs.Updates.{Waits, IsJob}
use Rattle.registrar_state.proofs.StateLemmas.{known_of}
use Rattle.registrar_state.proofs.UpdateLemmas.{none_unspread, job_of_any}
use Rattle.registrar_state.proofs.state.RegState.job_for.Goals as goal

pub returns-in-None : goal.returns-in-None
returns-in-None c = λ h stands epoch.
    none_unspread c.args.self.now h (moment h c.args.now) epoch c.args.id stands c.in-None.ensures

pub returns-in-Some : goal.returns-in-Some
returns-in-Some c = λ h stands.
    let spread = subst (λ keys. IsSpreading keys c.in-Some.epoch) (known_of c.args.self.now h stands).keys c.in-Some.ensures in
    job_of_any h (moment h c.args.now) c.in-Some.epoch c.args.id c.job_of.result spread
    (subst (λ (t : ℕ). MatchOption c.job_of.result (Waits h t c.args.id c.in-Some.epoch → ⊥) (IsJob h t c.args.id)) (c.moment.ensures h stands)
    (c.job_of.ensures h stands spread))
