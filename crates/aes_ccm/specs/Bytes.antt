-- Strings of bytes.
use Rattle.std.specs.Prelude.{ℕ, zero, suc, ◌+◌, ◌-◌, ◌/◌, ◌%◌, List, [], ◌∷◌, ◌++◌, length, take, drop, replicate, bit_xor}

-- the sum of two strings, byte by byte, as long as the shorter
unfoldable pub xor : List ℕ → List ℕ → List ℕ
xor [] ys = []
xor (x ∷ xs) [] = []
xor (x ∷ xs) (y ∷ ys) = bit_xor x y ∷ xor xs ys

-- a number below 65,536 as two bytes, the most significant first
unfoldable pub two_bytes : ℕ → List ℕ
two_bytes n = n / 256 ∷ n % 256 ∷ []

-- at most 16 bytes, with zeros after them up to 16
unfoldable pub padded : List ℕ → List ℕ
padded bytes = bytes ++ replicate (16 - length bytes) 0

-- how many blocks of 16 bytes a string fills, the last of them perhaps in part
abbrev pub block_count : List ℕ → ℕ
block_count bytes = (length bytes + 15) / 16

-- the first n blocks of a string
unfoldable pub first_blocks : ℕ → List ℕ → List (List ℕ)
first_blocks zero bytes = []
first_blocks (suc n) bytes = padded (take 16 bytes) ∷ first_blocks n (drop 16 bytes)

-- a string in blocks, the last of them padded
unfoldable pub blocks : List ℕ → List (List ℕ)
blocks bytes = first_blocks (block_count bytes) bytes
