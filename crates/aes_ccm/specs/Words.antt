-- A state as four words, whose most significant byte is that of the first row (FIPS 197, 3.5).
use Rattle.std.specs.Prelude.{◌≡◌, ℕ, ◌<◌, List, [], ◌∷◌, ◌++◌, slice_index, slice_index_or}
use Rattle.std.specs.Int.{w32, to_be_bytes}
use Rattle.aes_ccm.specs.Field.{product}
use Rattle.aes_ccm.specs.Cipher.{round_key}

-- the state of four words
abbrev pub state_of : List ℕ → List ℕ
state_of words =
    to_be_bytes w32 (slice_index words 0) ++ to_be_bytes w32 (slice_index words 1)
    ++ to_be_bytes w32 (slice_index words 2) ++ to_be_bytes w32 (slice_index words 3)

-- the state of the words of round key n
abbrev pub key_at : List (List ℕ) → ℕ → List ℕ
key_at keys n = state_of (slice_index_or keys n [])

-- round keys 0 to 10 are those of the first
abbrev pub IsExpanded : List (List ℕ) → Type 0
IsExpanded keys = (n : ℕ) → n < 11 → key_at keys n ≡ round_key (key_at keys 0) n

-- what a byte in each row adds to its column when the columns are mixed

abbrev pub first_row : ℕ → List ℕ
first_row b = product 2 b ∷ b ∷ b ∷ product 3 b ∷ []

abbrev pub second_row : ℕ → List ℕ
second_row b = product 3 b ∷ product 2 b ∷ b ∷ b ∷ []

abbrev pub third_row : ℕ → List ℕ
third_row b = b ∷ product 3 b ∷ product 2 b ∷ b ∷ []

abbrev pub fourth_row : ℕ → List ℕ
fourth_row b = b ∷ b ∷ product 3 b ∷ product 2 b ∷ []
