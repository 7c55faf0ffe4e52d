-- What follows a token, and an inner code: options, and after a marker a payload (RFC 7252, 3).
use Rattle.std.specs.Prelude.{◌≡◌, ◌≢◌, ℕ, ◌+◌, List, [], ◌∷◌, ◌++◌, length}
use Rattle.coap_message.specs.declared.fault.CoapFault.{CoapFault}
use Rattle.coap_message.specs.declared.fault.CoapFault.TheVariants.{Short, Version, TokenLength, OptionForm, EmptyPayload}
use Rattle.coap_message.specs.Options.{IsOptions, last_number, HasNoOption}

-- a payload with its marker; no payload has none
abbrev pub payload_field : List ℕ → List ℕ
payload_field [] = []
payload_field (byte ∷ payload) = 255 ∷ byte ∷ payload

-- the bytes are these options and this payload
abbrev pub IsBody : List ℕ → List (ℕ × List ℕ) → List ℕ → Type 0
IsBody bytes options payload =
    (spelled : List ℕ) × (bytes ≡ spelled ++ payload_field payload) × IsOptions 0 spelled options

-- there is neither the end, nor a payload's marker, nor an option after one of the number `last`
abbrev pub IsStray : ℕ → List ℕ → Type 0
IsStray last [] = ⊥
IsStray last (byte ∷ bytes) = (byte ≢ 255) × HasNoOption last (byte ∷ bytes)

-- The first fault of these bytes, which come after `before` others: there is none where an option should be, or nothing
-- comes after a payload's marker.
abbrev pub IsBodyFault : ℕ → List ℕ → CoapFault → Type 0
IsBodyFault before bytes (OptionForm at) =
    (spelled rest : List ℕ) × (options : List (ℕ × List ℕ)) × (bytes ≡ spelled ++ rest) × IsOptions 0 spelled options
    × IsStray (last_number 0 options) rest × (at ≡ before + length spelled)
IsBodyFault before bytes EmptyPayload =
    (spelled : List ℕ) × (options : List (ℕ × List ℕ)) × (bytes ≡ spelled ++ 255 ∷ []) × IsOptions 0 spelled options
IsBodyFault before bytes Short = ⊥
IsBodyFault before bytes Version = ⊥
IsBodyFault before bytes TokenLength = ⊥
