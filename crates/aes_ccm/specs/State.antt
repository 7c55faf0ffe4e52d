-- The state of AES (FIPS 197, 3.4): 16 bytes, its four columns of four bytes one after the other.
use Rattle.std.specs.Prelude.{ℕ, ◌+◌, ◌*◌, ◌%◌, List, [], ◌∷◌, ◌++◌, bit_xor, slice_index}
use Rattle.std.specs.Int.{w8, rotate_right}
use Rattle.aes_ccm.specs.Field.{product, inverse}

-- the byte in this row and column
abbrev pub cell : List ℕ → ℕ → ℕ → ℕ
cell s row col = slice_index s (row + 4 * col)

abbrev pub column : List ℕ → ℕ → List ℕ
column s col = cell s 0 col ∷ cell s 1 col ∷ cell s 2 col ∷ cell s 3 col ∷ []

-- the state with these columns
abbrev pub from_columns : (ℕ → List ℕ) → List ℕ
from_columns f = f 0 ++ f 1 ++ f 2 ++ f 3

-- the state with these bytes in each row and column
abbrev pub from_cells : (ℕ → ℕ → ℕ) → List ℕ
from_cells f = from_columns (λ col. f 0 col ∷ f 1 col ∷ f 2 col ∷ f 3 col ∷ [])

-- the affine map on a byte: bit i is the sum of the bits i, i + 4, i + 5, i + 6 and i + 7, modulo 8, and bit i of 63 (5.1.1)
unfoldable pub affine : ℕ → ℕ
affine b = bit_xor (bit_xor (bit_xor (bit_xor (bit_xor b (rotate_right w8 b 4)) (rotate_right w8 b 5))
    (rotate_right w8 b 6)) (rotate_right w8 b 7)) 0x63

-- SBox (5.1.1)
unfoldable pub substitute : ℕ → ℕ
substitute b = affine (inverse b)

-- SubBytes (5.1.1)
unfoldable pub sub_bytes : List ℕ → List ℕ
sub_bytes s = from_cells (λ row col. substitute (cell s row col))

-- ShiftRows (5.1.2)
unfoldable pub shift_rows : List ℕ → List ℕ
shift_rows s = from_cells (λ row col. cell s row ((col + row) % 4))

-- a column times the polynomial {03} x^3 + {01} x^2 + {01} x + {02}, modulo x^4 + 1 (5.1.3)
unfoldable pub mix_column : ℕ → ℕ → ℕ → ℕ → List ℕ
mix_column a b c d =
    bit_xor (bit_xor (bit_xor (product 2 a) (product 3 b)) c) d
    ∷ bit_xor (bit_xor (bit_xor a (product 2 b)) (product 3 c)) d
    ∷ bit_xor (bit_xor (bit_xor a b) (product 2 c)) (product 3 d)
    ∷ bit_xor (bit_xor (bit_xor (product 3 a) b) c) (product 2 d)
    ∷ []

-- MixColumns (5.1.3)
unfoldable pub mix_columns : List ℕ → List ℕ
mix_columns s = from_columns (λ col. mix_column (cell s 0 col) (cell s 1 col) (cell s 2 col) (cell s 3 col))

-- AddRoundKey (5.1.4)
unfoldable pub add_round_key : List ℕ → List ℕ → List ℕ
add_round_key s k = from_cells (λ row col. bit_xor (cell s row col) (cell k row col))
