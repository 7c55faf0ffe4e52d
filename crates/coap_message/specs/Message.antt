-- Messages, and what is no message (RFC 7252, 3; RFC 8974, 2.1).
use Rattle.std.specs.Prelude.{◌≡◌, ◌≢◌, ℕ, ◌/◌, ◌%◌, ◌<◌, List, [], ◌∷◌, ◌++◌, length, drop, slice_index, ◌⊎◌}
use Rattle.coap_message.specs.declared.fault.CoapFault.{CoapFault}
use Rattle.coap_message.specs.declared.fault.CoapFault.TheVariants.{Short, Version, TokenLength, OptionForm, EmptyPayload}
use Rattle.coap_message.specs.declared.message.Message.{Message}
use Rattle.coap_message.specs.declared.message.Inner.{Inner}
use Rattle.coap_message.specs.Extended.{IsSized}
use Rattle.coap_message.specs.Header.{Header, IsHeader}
use Rattle.coap_message.specs.Body.{IsBody, IsBodyFault}
use Rattle.coap_message.specs.Reading.{options_of}

-- what a message says
pub record Packet : Type 0 where
  pub header : Header
  pub options : List (ℕ × List ℕ)
  pub payload : List ℕ

abbrev pub packet_of : Message → Packet
packet_of m = record {
  header = record { kind = m.kind; code = m.code; mid = m.mid; token = m.token.now };
  options = options_of 0 m.options.now;
  payload = m.payload.now;
}

-- the bytes are this message
pub record IsMessage (bytes : List ℕ) (m : Packet) : Type 0 where
  pub header : List ℕ
  pub body : List ℕ
  pub bytes_are : bytes ≡ header ++ body
  pub header_is : IsHeader header m.header
  pub body_is : IsBody body m.options m.payload

-- The header or the token is cut: there are less than four bytes, or the nibble isn't 15 and no token of the length that
-- it begins comes after them.
abbrev pub IsCut : List ℕ → Type 0
IsCut (first ∷ code ∷ high ∷ low ∷ bytes) =
    (first % 16 ≢ 15)
    × ((spelled token rest : List ℕ) → IsSized (first % 16) spelled token → bytes ≡ spelled ++ rest → ⊥)
IsCut bytes = Unit {0}

-- the nibble is 15, or the token has more than 600 bytes
abbrev pub HasRefusedToken : List ℕ → Type 0
HasRefusedToken bytes =
    (slice_index bytes 0 % 16 ≡ 15)
    ⊎ ((spelled token rest : List ℕ) × IsSized (slice_index bytes 0 % 16) spelled token × (drop 4 bytes ≡ spelled ++ rest)
    × (600 < length token))

-- a header and a token, and after them this fault
abbrev pub HasBodyFault : List ℕ → CoapFault → Type 0
HasBodyFault bytes fault =
    (header body : List ℕ) × (h : Header) × (bytes ≡ header ++ body) × IsHeader header h
    × IsBodyFault (length header) body fault

-- The fault applies, and none before it in this order: cut short, another version than 1, a refused length of the token,
-- no option where one should be, a marker with nothing after it.
abbrev pub IsFault : List ℕ → CoapFault → Type 0
IsFault bytes Short = IsCut bytes
IsFault bytes Version = (IsCut bytes → ⊥) × (slice_index bytes 0 / 64 ≢ 1)
IsFault bytes TokenLength = (IsCut bytes → ⊥) × (slice_index bytes 0 / 64 ≡ 1) × HasRefusedToken bytes
IsFault bytes (OptionForm at) = HasBodyFault bytes (OptionForm at)
IsFault bytes EmptyPayload = HasBodyFault bytes EmptyPayload

-- what an inner message says: code, options and payload, as they are in an OSCORE plaintext (RFC 8613, 5.3)
pub record InnerPacket : Type 0 where
  pub code : ℕ
  pub options : List (ℕ × List ℕ)
  pub payload : List ℕ

abbrev pub inner_packet_of : Inner → InnerPacket
inner_packet_of m = record { code = m.code; options = options_of 0 m.options.now; payload = m.payload.now }

-- the bytes are this inner message
abbrev pub IsInner : List ℕ → InnerPacket → Type 0
IsInner [] m = ⊥
IsInner (code ∷ body) m = (code ≡ m.code) × IsBody body m.options m.payload

-- there is no code, or after it this fault
abbrev pub IsInnerFault : List ℕ → CoapFault → Type 0
IsInnerFault [] fault = fault ≡ Short
IsInnerFault (code ∷ body) fault = IsBodyFault 1 body fault
