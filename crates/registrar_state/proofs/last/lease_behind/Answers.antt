use Rattle.std.proofs.Common.{◌≡◌, ℕ, List, sym, ◌∙◌, subst}
use Rattle.cbor_cojp.specs.Config.{IsConfig}
use Rattle.join_history.specs.Answers.{configuration}
use Rattle.registrar_state.proofs.last.lease_behind.Goals as goal

pub returns-in-Some : goal.returns-in-Some
returns-in-Some c text is keys s a config hours fits =
    let parts = sym is ∙ c.in-Some.ensures.cases.0 in
    let same : text ≡ c.in-Some.bytes.now = cc (parts) in
    c.lease_in.ensures keys s a (subst (λ (bytes : List ℕ). IsConfig bytes (configuration keys s a)) same config) hours fits
