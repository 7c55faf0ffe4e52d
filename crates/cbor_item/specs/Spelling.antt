-- What each call of a writer writes: the shortest head of the value, and a string's bytes.
use Rattle.std.specs.Prelude.{◌≡◌, ℕ, ◌+◌, ◌<◌, ◌≤◌, ℤ, pos, negsuc, List, [], ◌∷◌, ◌++◌, length, All, Result, Ok, Err, OnOk}
use Rattle.cbor_item.specs.declared.fault.Full.{Full}
use Rattle.cbor_item.specs.declared.head.Major.{Major}
use Rattle.cbor_item.specs.declared.head.Major.TheVariants.{Unsigned, Negative}
use Rattle.cbor_item.specs.Head.{head_text}

abbrev pub int_text : ℤ → List ℕ
int_text (pos n) = head_text Unsigned n
int_text (negsuc n) = head_text Negative n

abbrev pub string_text : Major → List ℕ → List ℕ
string_text kind value = head_text kind (length value) ++ value

abbrev pub null_text : List ℕ
null_text = 0xf6 ∷ []

-- The text is appended where it fits this capacity. Where it doesn't, its length is reported and nothing has changed.
abbrev pub Writes : ℕ → List ℕ → List ℕ → List ℕ → Result (Unit {0}) Full → Type 0
Writes capacity text old new (Ok done) = (new ≡ old ++ text) × (length old + length text ≤ capacity)
Writes capacity text old new (Err full) =
    (new ≡ old) × (full.0 ≡ length text) × (capacity < length old + length text)

-- no bytes that say the same are fewer
abbrev pub IsShortest : (List ℕ → Type 0) → List ℕ → Type 0
IsShortest SaysSo text = (other : List ℕ) → All (λ byte. byte < 256) other → SaysSo other → length text ≤ length other

-- what was appended says so, in as few bytes as can be
abbrev pub IsSpelled : (List ℕ → Type 0) → List ℕ → List ℕ → Result (Unit {0}) Full → Type 0
IsSpelled SaysSo old new result =
    OnOk result ((text : List ℕ) × (new ≡ old ++ text) × SaysSo text × IsShortest SaysSo text)
