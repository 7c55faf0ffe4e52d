-- The inner answer of a decision: a code, and a payload after the marker where there is one (RFC 7252, 3; RFC 9031, 8.4).
use Rattle.std.specs.Prelude.{◌≡◌, ◌==◌, if◌then◌else◌, ℕ, List, [], ◌∷◌, ◌++◌, Option, Some, None, map}
use Rattle.key_sets.specs.declared.phase.Phase.{Phase}
use Rattle.key_sets.specs.Keys.{in_force}
use Rattle.cbor_cojp.specs.declared.key.LinkKey.{LinkKey}
use Rattle.cbor_cojp.specs.declared.config.Configuration.{Configuration}
use Rattle.cbor_cojp.specs.Spelling.{config_text}
use Rattle.edge_traits.specs.declared.names.PledgeId.{PledgeId}
use Rattle.journal_text.specs.declared.settings.Settings.{Settings}
use Rattle.journal_text.specs.declared.refusal.Refusal.{Refusal}
use Rattle.journal_text.specs.declared.refusal.Refusal.TheVariants.{Malformed, Unsupported}
use Rattle.journal_text.specs.Codes.{code_of}
use Rattle.journal_text.specs.declared.entry.Entry.{Entry}
use Rattle.journal_text.specs.declared.entry.Entry.TheVariants.{Grant, Refuse}
use Rattle.join_history.specs.Leases.{current_settings}
use Rattle.join_history.specs.Decisions.{IsDecision}
use Rattle.join_history.specs.Phases.{phase}

-- the array of an unsupported parameter: 0 where it isn't supported and 1 where it is malformed, its label, and null
abbrev pub unsupported : ℕ → ℕ → List ℕ
unsupported code label = 131 ∷ code ∷ label ∷ 246 ∷ []

-- the payload of a refusal
abbrev pub refusal_payload : Refusal → List ℕ
refusal_payload (Malformed label) = 255 ∷ unsupported 1 label
refusal_payload (Unsupported label) = 255 ∷ unsupported 0 label
refusal_payload _ = []

-- the inner answer of a Refuse
abbrev pub refusal_answer : Refusal → List ℕ
refusal_answer why = code_of why ∷ refusal_payload why

-- a key in force as a Configuration has it, without a usage
abbrev pub link_key : ℕ × List ℕ → LinkKey
link_key key = record { id = key.0; usage = 0; value = key.1 }

-- the keys in force as a Configuration has them
abbrev pub link_keys : Phase → List LinkKey
link_keys keys = map link_key (in_force keys)

-- the lease time, where the lease has an end
abbrev pub hours_of : ℕ → Option ℕ
hours_of hours = if hours == 0 then None else Some hours

-- what a Grant of the address brings under these keys and settings
abbrev pub configuration : Phase → Settings → ℕ → Configuration
configuration keys settings address = record {
  keys = record { items = link_keys keys };
  short = Some (record { address = address; hours = hours_of settings.hours });
  jrc = settings.jrc;
  refused = record { items = map (λ (p : PledgeId). p.0) settings.refused.items };
  rate = settings.rate;
}

-- the inner answer of a Grant: 2.04 with its Configuration
unfoldable pub grant_answer : Phase → Settings → ℕ → List ℕ
grant_answer keys settings address = 68 ∷ 255 ∷ config_text (configuration keys settings address)

-- the inner answer of a decision that follows the history; other entries have none
abbrev pub answer_after : List Entry → Option Settings → Entry → List ℕ
answer_after g (Some settings) (Grant time context number address until) = grant_answer (phase g) settings address
answer_after g _ (Refuse time context number why) = refusal_answer why
answer_after g _ _ = []

-- the bytes are the inner answer of the decision of this context and number
pub record IsAnswer (h : List Entry) (c n : ℕ) (bytes : List ℕ) : Type 0 where
  pub before : List Entry
  pub decision : Entry
  pub after : List Entry
  pub place : h ≡ before ++ decision ∷ after
  pub decides : IsDecision c n decision
  pub is_answer : bytes ≡ answer_after before (current_settings before) decision
