use Rattle.std.proofs.Common.{◌≡◌, Some, refl, ap, rules}
use Rattle.journal_text.specs.declared.settings.Settings.{Settings}
use Rattle.registrar_state.proofs.StateSteps.{settings_added}
use Rattle.registrar_state.proofs.state.RegState.add_settings.Goals as goal

pub returns-clause-stands : goal.returns-clause-stands
returns-clause-stands c =
    let copied : c.unwrap.result ≡ c.args.settings.now = search rules in
    λ h stands.
    settings_added h c.args.time c.args.settings.now c.requires.may stands refl (ap (λ (s : Settings). Some (c.args.time, s)) copied) (record { keys = refl; contexts = refl; leases = refl; pledges = refl })
