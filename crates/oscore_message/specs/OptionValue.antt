-- The value of the OSCORE option (RFC 8613, 6.1): one grammar, in which each value has one spelling.
use Rattle.std.specs.Prelude.{◌≡◌, ℕ, ◌+◌, ◌-◌, ◌*◌, ◌/◌, ◌%◌, ◌^◌, ◌<◌, List, [], ◌∷◌, ◌++◌, length, take, drop, Bool, true, false, ◌||◌, ◌&&◌, not, Option, None, Some, IfSome, nat_lt, ◌==◌, if◌then◌else◌}
use Rattle.std.specs.Option.{option_map}
use Rattle.oscore_message.specs.declared.option_value.OptionValue.{OptionValue}
use Rattle.oscore_message.specs.PartialIv.{partial_iv, has_leading_zero}

-- what a value says: the Partial IV's number, the kid context and the kid
pub record Fields : Type 0 where
  pub number : Option ℕ
  pub context : Option (List ℕ)
  pub kid : Option (List ℕ)

abbrev pub fields_of : OptionValue → Fields
fields_of v = record { number = v.number; context = option_map (λ c. c.now) v.context; kid = option_map (λ k. k.now) v.kid }

abbrev pub no_fields : Fields
no_fields = record { number = None; context = None; kid = None }

-- ---- the spelling

abbrev pub number_field : Option ℕ → List ℕ
number_field None = []
number_field (Some number) = partial_iv number

-- the kid context after its length
abbrev pub context_field : Option (List ℕ) → List ℕ
context_field None = []
context_field (Some context) = length context ∷ context

abbrev pub kid_field : Option (List ℕ) → List ℕ
kid_field None = []
kid_field (Some kid) = kid

-- the flag bit h or k
abbrev pub flag : Option (List ℕ) → ℕ
flag None = 0
flag (Some bytes) = 1

-- the bits 000hknnn, where n is the length of the Partial IV
abbrev pub flags_of : Fields → ℕ
flags_of v = 16 * flag v.context + 8 * flag v.kid + length (number_field v.number)

-- a value with nothing in it is empty
unfoldable pub option_text : Fields → List ℕ
option_text v =
    if flags_of v == 0 then []
    else flags_of v ∷ number_field v.number ++ context_field v.context ++ kid_field v.kid

-- a number has at most five bytes, and a kid context at most 255
pub record Fits (v : Fields) : Type 0 where
  pub number : IfSome v.number (λ n. n < 2 ^ 40)
  pub context : IfSome v.context (λ c. length c < 256)

-- the bytes say this
pub record IsOptionValue (bytes : List ℕ) (v : Fields) : Type 0 where
  pub fits : Fits v
  pub spelled : bytes ≡ option_text v

-- ---- the first fault

abbrev pub is_empty : List ℕ → Bool
is_empty [] = true
is_empty (byte ∷ bytes) = false

-- a reserved bit or length, or no field after the flags
abbrev pub has_bad_flags : ℕ → List ℕ → Bool
has_bad_flags flags rest = nat_lt 31 flags || (nat_lt 5 (flags % 8) || (flags == 0 && is_empty rest))

-- the Partial IV is cut short or has a leading zero
abbrev pub has_bad_number : ℕ → List ℕ → Bool
has_bad_number n rest = nat_lt (length rest) n || has_leading_zero (take n rest)

-- the kid context is cut short, or its length is
abbrev pub has_cut_context : List ℕ → Bool
has_cut_context [] = true
has_cut_context (len ∷ rest) = nat_lt (length rest) len

abbrev pub has_context : ℕ → Bool
has_context flags = flags / 16 % 2 == 1

abbrev pub has_kid : ℕ → Bool
has_kid flags = flags / 8 % 2 == 1

-- what comes after the kid context
abbrev pub after_context : Bool → List ℕ → List ℕ
after_context true (len ∷ rest) = drop len rest
after_context true [] = []
after_context false rest = rest

-- the place of the first fault: the flags, the Partial IV, the kid context's length, what no field takes
unfoldable pub first_fault : List ℕ → Option ℕ
first_fault [] = None
first_fault (flags ∷ rest) =
    if has_bad_flags flags rest then Some 0
    else (if has_bad_number (flags % 8) rest then Some 1
    else (if has_context flags && has_cut_context (drop (flags % 8) rest) then Some (1 + flags % 8)
    else (if not (has_kid flags) && not (is_empty (after_context (has_context flags) (drop (flags % 8) rest)))
    then Some (1 + length rest - length (after_context (has_context flags) (drop (flags % 8) rest)))
    else None)))
