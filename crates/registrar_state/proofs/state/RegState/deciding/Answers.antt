use Rattle.std.proofs.Common.{◌≡◌, Some, rules}
use Rattle.join_history.specs.Leases.{current_settings}
use Rattle.join_history.proofs.SettingsLemmas.{IsInRange-current}
use Rattle.registrar_state.proofs.StateLemmas.{IsLegal-stands}
use Rattle.registrar_state.proofs.state.RegState.deciding.Goals as goal

pub returns-then-is_fresh-clause-pool : goal.returns-then-is_fresh-clause-pool
returns-then-is_fresh-clause-pool c =
    let h = c.requires.0 in
    let stands = c.requires.1 in
    let said = c.settings.ensures h stands in
    let current : current_settings h ≡ Some c.in_ok-settings.settings.now = search rules in
    let range = IsInRange-current h (IsLegal-stands c.args.self.now h stands) c.in_ok-settings.settings.now current in
    (range.first, range.last)
