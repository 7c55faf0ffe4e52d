-- Messages that a proxy forwards and returns.
use Rattle.std.specs.Prelude.{◌≡◌, ◌⊎◌, ℕ, ◌+◌, ◌≤◌, Bool, true, false, List, [], ◌∷◌, length, replicate, ◌==◌, ◌&&◌, if◌then◌else◌}
use Rattle.coap_message.specs.declared.header.Kind.TheVariants.{Con, Non}
use Rattle.coap_message.specs.Options.{option_spelling}
use Rattle.coap_message.specs.Header.{Header}
use Rattle.coap_message.specs.Message.{Packet}
use Rattle.coap_message.specs.Draft.{draft_of, with_options, with_payload, IsAscending}

-- the option Proxy-Scheme
abbrev pub proxy_scheme : ℕ
proxy_scheme = 39

-- the options, without Proxy-Scheme where it is to be left out
abbrev pub sent : Bool → List (ℕ × List ℕ) → List (ℕ × List ℕ)
sent without [] = []
sent without (option ∷ options) = if without && (option.0 == proxy_scheme) then sent without options else option ∷ sent without options

-- the values of Proxy-Scheme
abbrev pub schemes : List (ℕ × List ℕ) → List (List ℕ)
schemes [] = []
schemes (option ∷ options) = if option.0 == proxy_scheme then option.1 ∷ schemes options else schemes options

-- `coap`
abbrev pub coap : List ℕ
coap = 99 ∷ 111 ∷ 97 ∷ 112 ∷ []

-- a POST for which the proxy is asked: confirmable or not, with Proxy-Scheme `coap` once
abbrev pub IsRequest : Packet → Type 0
IsRequest m = ((m.header.kind ≡ Con) ⊎ (m.header.kind ≡ Non)) × (m.header.code ≡ 2) × (schemes m.options ≡ coap ∷ [])

-- 2.04 (Changed)
abbrev pub changed : ℕ
changed = 68

-- the message under another header: non-confirmable, with this message ID and token
abbrev pub message_with : Bool → ℕ → List ℕ → Packet → Packet
message_with without mid token m = record {
  header = record { kind = Non; code = m.header.code; mid = mid; token = token };
  options = sent without m.options;
  payload = m.payload;
}

-- what goes on: all but Proxy-Scheme
abbrev pub forwarded : ℕ → List ℕ → Packet → Packet
forwarded = message_with true

-- what comes back
abbrev pub returned : ℕ → List ℕ → Packet → Packet
returned = message_with false

-- a message as it is written
abbrev pub text_of : Packet → List ℕ
text_of m = with_payload (with_options (draft_of m.header) m.options) m.payload

-- how long the message is that goes on, whose token is 39 bytes longer
abbrev pub need_of : Packet → ℕ
need_of m = length (text_of (forwarded 0 (replicate (39 + length m.header.token) 0) m))

-- how many bytes options are written with
abbrev pub options_len : ℕ → List (ℕ × List ℕ) → ℕ
options_len last [] = 0
options_len last (option ∷ options) = length (option_spelling last option.0 option.1) + options_len option.0 options

-- what is known of a message that was read from a datagram
pub record IsRead (m : Packet) : Type 0 where
  pub token : length m.header.token ≤ 600
  pub payload : length m.payload ≤ 1280
  pub ascending : IsAscending 0 m.options
  pub few : (without : Bool) → options_len 0 (sent without m.options) ≤ 6400

-- this message as it is written, under another header
abbrev pub text_under : Header → Bool → Packet → List ℕ
text_under h without m = text_of (record { header = h; options = sent without m.options; payload = m.payload })
