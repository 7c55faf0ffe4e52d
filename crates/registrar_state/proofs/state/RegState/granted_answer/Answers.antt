use Rattle.std.proofs.Common.{◌≡◌, Some, sym, subst, ◌∙◌, rules}
use Rattle.journal_text.specs.declared.settings.Settings.{Settings}
use Rattle.key_sets.specs.declared.phase.Phase.{Phase}
use Rattle.join_history.specs.Leases.{current_settings}
use Rattle.join_history.specs.Phases.{phase}
use Rattle.join_history.specs.Answers.{grant_answer}
use Rattle.registrar_state.proofs.StateLemmas.{known_of}
use Rattle.registrar_state.proofs.DueLemmas.{some_settings}
use Rattle.registrar_state.proofs.state.RegState.granted_answer.Goals as goal

pub returns : goal.returns
returns c = λ h s stands current.
    let said = c.settings.ensures h stands in
    let own : current_settings h ≡ Some c.unwrap.result.now = search rules in
    let same = some_settings c.unwrap.result.now s (sym own ∙ current) in
    subst (λ (x : Settings). c.grant_answer.result.items ≡ grant_answer (phase h) x c.args.address) same
    (subst (λ (keys : Phase). c.grant_answer.result.items ≡ grant_answer keys c.unwrap.result.now c.args.address) (known_of c.args.self.now h stands).keys c.grant_answer.ensures)
