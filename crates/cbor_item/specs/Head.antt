-- Heads of items (RFC 8949, 3): the major type in the upper three bits of the first byte, additional information in
-- the lower five, and the argument there or in the bytes that follow.
use Rattle.std.specs.Prelude.{◌≡◌, ◌⊎◌, ℕ, ◌+◌, ◌*◌, ◌/◌, ◌%◌, ◌^◌, ◌<◌, List, [], ◌∷◌, length, take, drop, Result, Ok, Err, nat_lt, ◌==◌, if◌then◌else◌}
use Rattle.std.specs.Int.{Width, w8, w16, w32, w64, byte_len, from_be_bytes, to_be_bytes}
use Rattle.cbor_item.specs.declared.fault.ItemFault.{ItemFault}
use Rattle.cbor_item.specs.declared.fault.ItemFault.TheVariants.{Truncated, Kind, Indefinite}
use Rattle.cbor_item.specs.declared.head.Major.{Major}
use Rattle.cbor_item.specs.declared.head.Major.TheVariants.{Unsigned, Negative, Bytes, Text, Array, Map, Tag, Simple}
use Rattle.cbor_item.specs.Input.{place}

abbrev pub code_of : Major → ℕ
code_of Unsigned = 0
code_of Negative = 1
code_of Bytes = 2
code_of Text = 3
code_of Array = 4
code_of Map = 5
code_of Tag = 6
code_of Simple = 7

-- the major type in a first byte
abbrev pub major_of : ℕ → Major
major_of first =
    if first / 32 == 0 then Unsigned
    else (if first / 32 == 1 then Negative
    else (if first / 32 == 2 then Bytes
    else (if first / 32 == 3 then Text
    else (if first / 32 == 4 then Array
    else (if first / 32 == 5 then Map
    else (if first / 32 == 6 then Tag else Simple))))))

-- The argument of this additional information and of the bytes that follow: below 24 it is the argument; 24, 25, 26
-- and 27 put it into the next 1, 2, 4 and 8 bytes, the most significant first. It may be longer than needed.
abbrev pub IsArgument : ℕ → List ℕ → ℕ → Type 0
IsArgument info bytes argument =
    ((info < 24) × (bytes ≡ []) × (argument ≡ info))
    ⊎ ((info ≡ 24) × (length bytes ≡ 1) × (argument ≡ from_be_bytes w8 bytes))
    ⊎ ((info ≡ 25) × (length bytes ≡ 2) × (argument ≡ from_be_bytes w16 bytes))
    ⊎ ((info ≡ 26) × (length bytes ≡ 4) × (argument ≡ from_be_bytes w32 bytes))
    ⊎ ((info ≡ 27) × (length bytes ≡ 8) × (argument ≡ from_be_bytes w64 bytes))

-- the text is a head of this major type and argument
pub record IsHead (text : List ℕ) (major : Major) (argument : ℕ) : Type 0 where
  pub first : ℕ
  pub bytes : List ℕ
  pub spelled : text ≡ first ∷ bytes
  pub kind : major_of first ≡ major
  pub means : IsArgument (first % 32) bytes argument

-- the shortest head
abbrev pub head_text : Major → ℕ → List ℕ
head_text major argument =
    if nat_lt argument 24 then (32 * code_of major + argument) ∷ []
    else (if nat_lt argument (2 ^ 8) then (32 * code_of major + 24) ∷ to_be_bytes w8 argument
    else (if nat_lt argument (2 ^ 16) then (32 * code_of major + 25) ∷ to_be_bytes w16 argument
    else (if nat_lt argument (2 ^ 32) then (32 * code_of major + 26) ∷ to_be_bytes w32 argument
    else (32 * code_of major + 27) ∷ to_be_bytes w64 argument)))

-- ---- reading: a head from the left, with its first fault

-- a number of this width at the start, for the head at this place
abbrev pub number_at : Width → ℕ → List ℕ → Result (ℕ × List ℕ) ItemFault
number_at w at bytes =
    if nat_lt (length bytes) (byte_len w) then Err (Truncated at)
    else Ok (from_be_bytes w (take (byte_len w) bytes), drop (byte_len w) bytes)

-- the argument that this additional information says
unfoldable pub argument_by : ℕ → ℕ → List ℕ → Result (ℕ × List ℕ) ItemFault
argument_by info at bytes =
    if nat_lt info 24 then Ok (info, bytes)
    else (if info == 24 then number_at w8 at bytes
    else (if info == 25 then number_at w16 at bytes
    else (if info == 26 then number_at w32 at bytes
    else (if info == 27 then number_at w64 at bytes
    else (if info == 31 then Err (Indefinite at) else Err (Kind at))))))

-- the argument of the head at the start, whatever its major type, and the bytes after the head
unfoldable pub argument_at : ℕ → List ℕ → Result (ℕ × List ℕ) ItemFault
argument_at end [] = Err (Truncated (place end []))
argument_at end (first ∷ bytes) = argument_by (first % 32) (place end (first ∷ bytes)) bytes

-- the same where the major type is this one. Another major type is a fault, whatever follows its byte.
unfoldable pub argument_of : Major → ℕ → List ℕ → Result (ℕ × List ℕ) ItemFault
argument_of major end [] = Err (Truncated (place end []))
argument_of major end (first ∷ bytes) =
    if code_of (major_of first) == code_of major then argument_at end (first ∷ bytes)
    else Err (Kind (place end (first ∷ bytes)))
