-- Options: each a pair of its number and its value (RFC 7252, 3.1).
use Rattle.std.specs.Prelude.{◌≡◌, ℕ, ◌+◌, ◌-◌, ◌*◌, ◌%◌, ◌≤◌, List, [], ◌∷◌, ◌++◌, length}
use Rattle.coap_message.specs.Extended.{IsExtended, IsSized, nibble_of, extension}

-- What is spelled is this option, after one of the number `last`: two nibbles, what extends the first, and the value
-- with what extends its length. Numbers are sums of deltas, and have 16 bits.
pub record IsOption (last : ℕ) (spelled : List ℕ) (option : ℕ × List ℕ) : Type 0 where
  pub delta_nibble : ℕ
  pub length_nibble : ℕ
  pub delta : ℕ
  pub delta_more : List ℕ
  pub value : List ℕ
  pub spelled_is : spelled ≡ (16 * delta_nibble + length_nibble) ∷ (delta_more ++ value)
  pub delta_is : IsExtended delta_nibble delta_more delta
  pub value_is : IsSized length_nibble value option.1
  pub number_is : option.0 ≡ last + delta
  pub in_range : option.0 ≤ 65535

-- what is spelled is these options, one after the other, after one of the number `last`
abbrev pub IsOptions : ℕ → List ℕ → List (ℕ × List ℕ) → Type 0
IsOptions last spelled [] = spelled ≡ []
IsOptions last spelled (option ∷ options) =
    (front : List ℕ) × (rest : List ℕ) × (spelled ≡ front ++ rest) × IsOption last front option
    × IsOptions option.0 rest options

-- the number of the last option
abbrev pub last_number : ℕ → List (ℕ × List ℕ) → ℕ
last_number last [] = last
last_number last (option ∷ options) = last_number option.0 options

-- no option is at the start, after one of the number `last`
abbrev pub HasNoOption : ℕ → List ℕ → Type 0
HasNoOption last bytes =
    (spelled rest : List ℕ) (option : ℕ × List ℕ) → IsOption last spelled option → bytes ≡ spelled ++ rest → ⊥

-- the form of an option after one of the number `last`
abbrev pub option_spelling : ℕ → ℕ → List ℕ → List ℕ
option_spelling last number value =
    (16 * nibble_of (number - last) + nibble_of (length value))
    ∷ (extension (number - last) ++ (extension (length value) ++ value))

-- who doesn't know an option of this number must refuse the message (RFC 7252, 5.4.1)
abbrev pub IsCritical : ℕ → Type 0
IsCritical number = number % 2 ≡ 1
