use Rattle.std.proofs.Common.{◌≡◌, subst, sym, ap, ◌∙◌, ◌∷◌, ℕ, List}
use Rattle.key_sets.specs.Keys.{in_force}
use Rattle.cbor_cojp.specs.Spelling.{IsWritable, config_text}
use Rattle.join_history.specs.Answers.{configuration, grant_answer}
use Rattle.join_history.proofs.KeyLemmas.{ids_in_range}
use Rattle.join_history.proofs.ConfigurationLemmas.{keys_written}
use Rattle.registrar_state.proofs.answer.grant_answer.Goals as goal

pub write_config-requires : goal.write_config-requires
write_config-requires c =
    subst IsWritable (sym c.configuration-config.ensures) (record {
      keys = keys_written (in_force c.args.phase.now) (ids_in_range c.args.phase.now);
      short = c.requires;
    })

pub returns : goal.returns
unfolding grant_answer
returns c =
    let text : c.as_slice.result.now ≡ config_text (configuration c.args.phase.now c.args.settings.now c.args.address) =
    c.as_slice.ensures.value ∙ c.write_config.ensures.exact ∙ ap config_text c.configuration-config.ensures in
    c.changed.ensures ∙ ap (λ (payload : List ℕ). 68 ∷ 255 ∷ payload) text
