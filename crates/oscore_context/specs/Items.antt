-- CBOR items in their shortest form (RFC 8949, 4.2.1).
use Rattle.std.specs.Prelude.{ℕ, List, Option, None, Some}
use Rattle.cbor_item.specs.declared.head.Major.TheVariants.{Unsigned, Bytes, Text, Array}
use Rattle.cbor_item.specs.Head.{head_text}
use Rattle.cbor_item.specs.Spelling.{string_text, null_text}

-- the head of an array of n items
unfoldable pub array : ℕ → List ℕ
array n = head_text Array n

unfoldable pub number : ℕ → List ℕ
number n = head_text Unsigned n

unfoldable pub byte_string : List ℕ → List ℕ
byte_string bytes = string_text Bytes bytes

unfoldable pub text_string : List ℕ → List ℕ
text_string bytes = string_text Text bytes

-- a byte string, or null where there is none
unfoldable pub optional_bytes : Option (List ℕ) → List ℕ
optional_bytes None = null_text
optional_bytes (Some bytes) = byte_string bytes
