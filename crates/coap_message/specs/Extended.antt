-- Extended numbers: a nibble, and the bytes that extend it (RFC 7252, 3.1; for the token's length RFC 8974, 2.1).
use Rattle.std.specs.Prelude.{◌≡◌, ℕ, ◌+◌, ◌-◌, ◌*◌, ◌/◌, ◌%◌, ◌<◌, List, [], ◌∷◌, ◌++◌, length, nat_lt, if◌then◌else◌}

-- The nibble and the bytes that extend it stand for n; 15 stands for no number.
abbrev pub IsExtended : ℕ → List ℕ → ℕ → Type 0
IsExtended nibble [] n = (nibble ≡ n) × (n < 13)
IsExtended nibble (a ∷ []) n = (nibble ≡ 13) × (n ≡ a + 13)
IsExtended nibble (a ∷ b ∷ []) n = (nibble ≡ 14) × (n ≡ 256 * a + b + 269)
IsExtended nibble (a ∷ b ∷ c ∷ more) n = ⊥

-- What is spelled is the extension of the value's length, and then the value: a token, or an option's value.
pub record IsSized (nibble : ℕ) (spelled value : List ℕ) : Type 0 where
  pub more : List ℕ
  pub length_is : IsExtended nibble more (length value)
  pub spelled_is : spelled ≡ more ++ value

-- the form of a number: its nibble, and the bytes that extend it
abbrev pub nibble_of : ℕ → ℕ
nibble_of n = if nat_lt n 13 then n else (if nat_lt n 269 then 13 else 14)

abbrev pub extension : ℕ → List ℕ
extension n =
    if nat_lt n 13 then [] else (if nat_lt n 269 then (n - 13) ∷ [] else ((n - 269) / 256) ∷ ((n - 269) % 256) ∷ [])

-- how many bytes that is
abbrev pub extension_len : ℕ → ℕ
extension_len n = if nat_lt n 13 then 0 else (if nat_lt n 269 then 1 else 2)
