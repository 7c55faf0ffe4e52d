-- How long the pieces of a written message are.
use Rattle.std.specs.Prelude.{◌≡◌, ℕ, ◌+◌, ◌-◌, ◌≤◌, List, length}
use Rattle.coap_message.specs.Extended.{extension_len}
use Rattle.coap_message.specs.Options.{option_spelling}
use Rattle.coap_message.specs.Header.{Header, header_spelling}
use Rattle.coap_message.specs.Body.{payload_field}

-- four bytes, what extends the token's length, and the token
abbrev pub HeaderLen : Type 0
HeaderLen = (h : Header) → length (header_spelling h) ≡ 4 + extension_len (length h.token) + length h.token

-- one byte, what extends the delta and the length, and the value
abbrev pub OptionLen : Type 0
OptionLen = (last number : ℕ) (value : List ℕ)
    → length (option_spelling last number value) ≡ 1 + extension_len (number - last) + extension_len (length value) + length value

abbrev pub MostExtension : Type 0
MostExtension = (n : ℕ) → extension_len n ≤ 2

-- the marker and the payload
abbrev pub MostPayload : Type 0
MostPayload = (payload : List ℕ) → length (payload_field payload) ≤ 1 + length payload
