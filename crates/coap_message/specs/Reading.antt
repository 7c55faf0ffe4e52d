-- Reading from left to right: a value and the bytes after it.
use Rattle.std.specs.Prelude.{ℕ, zero, suc, ◌+◌, ◌-◌, ◌*◌, ◌/◌, ◌%◌, List, [], ◌∷◌, length, take, drop, Option, Some, None, Result, Ok, Err, option_and_then, nat_lt, ◌==◌, if◌then◌else◌}
use Rattle.std.specs.Option.{option_map_or}
use Rattle.coap_message.specs.declared.fault.CoapFault.{CoapFault}
use Rattle.coap_message.specs.declared.fault.CoapFault.TheVariants.{Short, Version, TokenLength, OptionForm, EmptyPayload}
use Rattle.coap_message.specs.declared.header.Kind.{Kind}
use Rattle.coap_message.specs.declared.header.Kind.TheVariants.{Con, Non, Ack, Rst}
use Rattle.coap_message.specs.Header.{Header}

infixl 10 ◌>>=◌
abbrev pub ◌>>=◌ : {A B : Type 0} → Option A → (A → Option B) → Option B
o >>= f = option_and_then f o

-- what a function returned, its value seen by view
abbrev pub seen : {X Y E : Type 0} → (X → Y) → Result X E → Result Y E
seen view (Ok x) = Ok (view x)
seen view (Err e) = Err e

abbrev pub one_byte : List ℕ → Option (ℕ × List ℕ)
one_byte [] = None
one_byte (a ∷ rest) = Some (a + 13, rest)

abbrev pub two_bytes : List ℕ → Option (ℕ × List ℕ)
two_bytes [] = None
two_bytes (a ∷ []) = None
two_bytes (a ∷ b ∷ rest) = Some (256 * a + b + 269, rest)

-- the number that a nibble and the bytes after it begin with
unfoldable pub extended_at : ℕ → List ℕ → Option (ℕ × List ℕ)
extended_at nibble bytes =
    if nat_lt nibble 13 then Some (nibble, bytes)
    else (if nibble == 13 then one_byte bytes else (if nibble == 14 then two_bytes bytes else None))

-- the value whose length a nibble and the bytes after it begin with
unfoldable pub sized_at : ℕ → List ℕ → Option (List ℕ × List ℕ)
sized_at nibble bytes = do
  n ← extended_at nibble bytes
  if nat_lt (length n.1) n.0 then None else Some (take n.0 n.1, drop n.0 n.1)

-- the option that is at the start, after one of the number `last`
unfoldable pub option_at : ℕ → List ℕ → Option ((ℕ × List ℕ) × List ℕ)
option_at last [] = None
option_at last (first ∷ bytes) = do
  delta ← extended_at (first / 16) bytes
  value ← sized_at (first % 16) delta.1
  if nat_lt 65535 (last + delta.0) then None else Some ((last + delta.0, value.0), value.1)

-- at most the given number of options, from the start, and the bytes after them
unfoldable pub options_within : ℕ → ℕ → List ℕ → List (ℕ × List ℕ) × List ℕ
options_within zero last bytes = ([], bytes)
options_within (suc n) last bytes =
    option_map_or (λ x. (x.0 ∷ (options_within n x.0.0 x.1).0, (options_within n x.0.0 x.1).1)) (option_at last bytes)
    ([], bytes)

-- All options from the start. Each has a byte at least, so there are no more of them than bytes.
abbrev pub options_of : ℕ → List ℕ → List (ℕ × List ℕ)
options_of last bytes = (options_within (length bytes) last bytes).0

-- the bytes after all options
abbrev pub behind_options : ℕ → List ℕ → List ℕ
behind_options last bytes = (options_within (length bytes) last bytes).1

-- the payload, where these bytes are left of a message; `at` is their place
unfoldable pub payload_at : ℕ → List ℕ → Result (List ℕ) CoapFault
payload_at at [] = Ok []
payload_at at (byte ∷ []) = if byte == 255 then Err EmptyPayload else Err (OptionForm at)
payload_at at (byte ∷ first ∷ rest) = if byte == 255 then Ok (first ∷ rest) else Err (OptionForm at)

-- these options and the payload after them
abbrev pub body_with : List (ℕ × List ℕ) → ℕ → List ℕ → Result (List (ℕ × List ℕ) × List ℕ) CoapFault
body_with options at rest = seen (λ payload. (options, payload)) (payload_at at rest)

-- the options and the payload of these bytes, which come after `before` others
unfoldable pub body_at : ℕ → List ℕ → Result (List (ℕ × List ℕ) × List ℕ) CoapFault
body_at before bytes =
    body_with (options_of 0 bytes) (before + (length bytes - length (behind_options 0 bytes))) (behind_options 0 bytes)

abbrev pub kind_at : ℕ → Kind
kind_at first =
    if first / 16 % 4 == 0 then Con
    else (if first / 16 % 4 == 1 then Non else (if first / 16 % 4 == 2 then Ack else Rst))

abbrev pub header_in : ℕ → ℕ → ℕ → List ℕ → Header
header_in first code mid token = record { kind = kind_at first; code = code; mid = mid; token = token }

-- the fault where no token comes after the header
abbrev pub fault_at : ℕ → CoapFault
fault_at first = if first % 16 == 15 then (if first / 64 == 1 then TokenLength else Version) else Short

abbrev pub header_with : ℕ → ℕ → ℕ → Option (List ℕ × List ℕ) → Result (Header × List ℕ) CoapFault
header_with first code mid None = Err (fault_at first)
header_with first code mid (Some x) =
    if first / 64 == 1 then
    (if nat_lt 600 (length x.0) then Err TokenLength else Ok (header_in first code mid x.0, x.1))
    else Err Version

-- the header and the token at the start, and the bytes after them
unfoldable pub header_at : List ℕ → Result (Header × List ℕ) CoapFault
header_at (first ∷ code ∷ high ∷ low ∷ bytes) = header_with first code (256 * high + low) (sized_at (first % 16) bytes)
header_at bytes = Err Short
