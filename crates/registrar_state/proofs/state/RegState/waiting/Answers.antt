use Rattle.std.proofs.Common.{◌≤◌, ℕ, MatchOption, subst, sym}
use Rattle.edge_traits.specs.declared.names.PledgeId.{PledgeId}
use Rattle.join_history.specs.Phases.{IsSpreading}
use Rattle.join_history.specs.Times.{moment, last_time}
use Rattle.join_history.specs.Updates.{Waits, IsFirstWaiting}
use Rattle.join_history.proofs.TimeLemmas.{IsTimely-moment}
use Rattle.registrar_state.proofs.StateLemmas.{IsLegal-stands, known_of}
use Rattle.registrar_state.proofs.UpdateLemmas.{none_unspread, first_of_any}
use Rattle.registrar_state.proofs.state.RegState.waiting.Goals as goal

pub returns-in-None : goal.returns-in-None
returns-in-None c = λ h stands p epoch.
    none_unspread c.args.self.now h (moment h c.args.now) epoch p stands c.in-None.ensures

pub returns-in-Some : goal.returns-in-Some
returns-in-Some c = λ h stands.
    let known = known_of c.args.self.now h stands in
    let legal = IsLegal-stands c.args.self.now h stands in
    let at = c.moment.ensures h stands in
    let spread = subst (λ keys. IsSpreading keys c.in-Some._epoch) known.keys c.in-Some.ensures in
    let later = subst (λ (t : ℕ). last_time h ≤ t) (sym at) (IsTimely-moment h c.args.now legal).not_before in
    first_of_any h (moment h c.args.now) c.in-Some._epoch c.first_waiting.result spread
    (subst (λ (t : ℕ). MatchOption c.first_waiting.result ((p : PledgeId) → Waits h t p c.in-Some._epoch → ⊥) (IsFirstWaiting h t)) at
    (c.first_waiting.ensures h c.in-Some._epoch legal known.pledges spread later))
