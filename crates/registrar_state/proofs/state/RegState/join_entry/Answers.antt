use Rattle.std.proofs.Common.{◌≡◌, Some, rules}
use Rattle.join_history.specs.Leases.{current_settings}
use Rattle.join_history.proofs.SettingsLemmas.{IsInRange-current}
use Rattle.registrar_state.proofs.StateLemmas.{IsLegal-stands}
use Rattle.registrar_state.proofs.state.RegState.join_entry.Goals as goal

pub due_address-requires-clause-pool : goal.due_address-requires-clause-pool
due_address-requires-clause-pool c =
    let h = c.requires.settings.0 in
    let stands = c.requires.settings.2 in
    let said = c.settings.ensures h stands in
    let current : current_settings h ≡ Some c.unwrap-settings.result.now = search rules in
    let range = IsInRange-current h (IsLegal-stands c.args.self.now h stands) c.unwrap-settings.result.now current in
    (range.first, range.last)
