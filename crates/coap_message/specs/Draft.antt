-- A message that is written piece by piece: header and token, options, payload (RFC 7252, 3).
use Rattle.std.specs.Prelude.{◌≡◌, ℕ, ◌≤◌, List, [], ◌∷◌, ◌++◌, length}
use Rattle.coap_message.specs.Options.{option_spelling}
use Rattle.coap_message.specs.Header.{Header, header_spelling}
use Rattle.coap_message.specs.Body.{payload_field}
use Rattle.coap_message.specs.Message.{Packet}

-- what is written so far, and the number of the last option, or 0
pub record Drafted : Type 0 where
  pub spelled : List ℕ
  pub last : ℕ

abbrev pub draft_of : Header → Drafted
draft_of h = record { spelled = header_spelling h; last = 0 }

abbrev pub with_option : Drafted → ℕ → List ℕ → Drafted
with_option d number value = record { spelled = d.spelled ++ option_spelling d.last number value; last = number }

-- one option after the other
abbrev pub with_options : Drafted → List (ℕ × List ℕ) → Drafted
with_options d [] = d
with_options d (option ∷ options) = with_options (with_option d option.0 option.1) options

-- the whole message
abbrev pub with_payload : Drafted → List ℕ → List ℕ
with_payload d payload = d.spelled ++ payload_field payload

-- no number is below the one before, nor above 65,535
abbrev pub IsAscending : ℕ → List (ℕ × List ℕ) → Type 0
IsAscending last [] = Unit {0}
IsAscending last (option ∷ options) = (last ≤ option.0) × (option.0 ≤ 65535) × IsAscending option.0 options

-- the draft has this message's header, token and options
pub record IsDraftOf (m : Packet) (d : Drafted) : Type 0 where
  pub token_fits : length m.header.token ≤ 600
  pub ascending : IsAscending 0 m.options
  pub pieces : d ≡ with_options (draft_of m.header) m.options
