-- AES-128 (FIPS 197, 5): ten rounds, under round keys that the key is expanded to. A round key is laid out as a state: its
-- columns are four words of the expanded key.
use Rattle.std.specs.Prelude.{ℕ, zero, suc, List, [], ◌∷◌, bit_xor, slice_index}
use Rattle.aes_ccm.specs.Field.{power_of_x}
use Rattle.aes_ccm.specs.Bytes.{xor}
use Rattle.aes_ccm.specs.State.{column, from_columns, substitute, sub_bytes, shift_rows, mix_columns, add_round_key}

-- SubWord of RotWord of a word, with a round constant added to its first byte (5.2)
unfoldable pub turned_word : List ℕ → ℕ → List ℕ
turned_word w constant =
    bit_xor (substitute (slice_index w 1)) constant ∷ substitute (slice_index w 2) ∷ substitute (slice_index w 3)
    ∷ substitute (slice_index w 0) ∷ []

-- The words of the round key after k, with this round constant: each is the sum of the word four before it and the word
-- before it, which is turned where it is the last of a round key (5.2).
unfoldable pub word_after : List ℕ → ℕ → ℕ → List ℕ
word_after k constant zero = xor (column k 0) (turned_word (column k 3) constant)
word_after k constant (suc n) = xor (column k (suc n)) (word_after k constant n)

unfoldable pub next_round_key : List ℕ → ℕ → List ℕ
next_round_key k constant = from_columns (word_after k constant)

-- round key n of a key of 16 bytes
unfoldable pub round_key : List ℕ → ℕ → List ℕ
round_key key zero = key
round_key key (suc n) = next_round_key (round_key key n) (power_of_x n)

-- a round under this round key (5.1)
unfoldable pub full_round : List ℕ → List ℕ → List ℕ
full_round s k = add_round_key (mix_columns (shift_rows (sub_bytes s))) k

-- the last round, which mixes no columns
unfoldable pub last_round : List ℕ → List ℕ → List ℕ
last_round s k = add_round_key (shift_rows (sub_bytes s)) k

-- the state after round n, which isn't the last
unfoldable pub rounds : List ℕ → List ℕ → ℕ → List ℕ
rounds key block zero = add_round_key block (round_key key 0)
rounds key block (suc n) = full_round (rounds key block n) (round_key key (suc n))

-- Cipher: a block of 16 bytes encrypted under a key of 16 bytes (5.1)
unfoldable pub encrypted : List ℕ → List ℕ → List ℕ
encrypted key block = last_round (rounds key block 9) (round_key key 10)
