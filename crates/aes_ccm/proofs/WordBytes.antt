-- Words and their four bytes.
use Rattle.std.proofs.Common.{◌≡◌, ℕ, zero, suc, lit<, get_or, ◌/◌, ◌%◌, ◌^◌, ◌<◌, List, [], ◌∷◌, ◌++◌, refl, ◌∙◌, ap, bit_xor}
use Rattle.std.proofs.lemmas.Nat.{xor_shr, xor_mod, be_bytes_4}
use Rattle.std.specs.Int.{w32, to_be_bytes, from_be_bytes, byte_at}
use Rattle.aes_ccm.specs.Bytes.{xor}
use Rattle.aes_ccm.specs.State.{substitute, mix_column}
use Rattle.aes_ccm.specs.Cipher.{turned_word, word_after, next_round_key}
use Rattle.aes_ccm.specs.Words.{state_of, first_row, second_row, third_row, fourth_row}

byte-xor : (a b k : ℕ) → bit_xor a b / 2 ^ k % 256 ≡ bit_xor (a / 2 ^ k % 256) (b / 2 ^ k % 256)
byte-xor a b k =
    let shifted = xor_shr a b k in
    let cut : bit_xor (a / 2 ^ k) (b / 2 ^ k) % 256 ≡ bit_xor (a / 2 ^ k % 256) (b / 2 ^ k % 256) = xor_mod (a / 2 ^ k) (b / 2 ^ k) 8 in
    ap (λ n. n % 256) shifted ∙ cut

-- the bytes of a sum are the sums of the bytes
pub to_be_bytes-xor : (a b : ℕ) → to_be_bytes w32 (bit_xor a b) ≡ xor (to_be_bytes w32 a) (to_be_bytes w32 b)
unfolding xor
to_be_bytes-xor a b =
    let e0 : byte_at 3 (bit_xor a b) ≡ bit_xor (byte_at 3 a) (byte_at 3 b) = byte-xor a b 24 in
    let e1 : byte_at 2 (bit_xor a b) ≡ bit_xor (byte_at 2 a) (byte_at 2 b) = byte-xor a b 16 in
    let e2 : byte_at 1 (bit_xor a b) ≡ bit_xor (byte_at 1 a) (byte_at 1 b) = byte-xor a b 8 in
    let e3 : byte_at 0 (bit_xor a b) ≡ bit_xor (byte_at 0 a) (byte_at 0 b) = xor_mod a b 8 in
    cc

-- equal columns make an equal state
pub append-four : (a a' b b' c c' d d' : List ℕ) → a ≡ a' → b ≡ b' → c ≡ c' → d ≡ d'
    → a ++ b ++ c ++ d ≡ a' ++ b' ++ c' ++ d'
append-four a a' b b' c c' d d' p q r s = cc

-- mixing adds up what each row gives
mix_column-rows : (a b c d : ℕ) → mix_column a b c d ≡ xor (xor (xor (first_row a) (second_row b)) (third_row c)) (fourth_row d)
unfolding xor mix_column
mix_column-rows a b c d = refl

-- the bytes of a mixed column and its key
pub to_be_bytes-mixed : (t u v w k a b c d a' b' c' d' : ℕ)
    → to_be_bytes w32 t ≡ first_row (substitute a) → to_be_bytes w32 u ≡ second_row (substitute b)
    → to_be_bytes w32 v ≡ third_row (substitute c) → to_be_bytes w32 w ≡ fourth_row (substitute d)
    → a ≡ a' → b ≡ b' → c ≡ c' → d ≡ d'
    → to_be_bytes w32 (bit_xor (bit_xor (bit_xor (bit_xor t u) v) w) k)
    ≡ xor (mix_column (substitute a') (substitute b') (substitute c') (substitute d')) (to_be_bytes w32 k)
to_be_bytes-mixed t u v w k a b c d a' b' c' d' et eu ev ew ea eb ec ed =
    let two = to_be_bytes-xor t u in
    let three = to_be_bytes-xor (bit_xor t u) v in
    let four = to_be_bytes-xor (bit_xor (bit_xor t u) v) w in
    let five = to_be_bytes-xor (bit_xor (bit_xor (bit_xor t u) v) w) k in
    let mixed = mix_column-rows (substitute a) (substitute b) (substitute c) (substitute d) in
    cc

each_below : (a b c d : ℕ) → a < 256 → b < 256 → c < 256 → d < 256 → (i : ℕ) → get_or (a ∷ b ∷ c ∷ d ∷ []) i 0 < 256
each_below a b c d p q r s zero = p
each_below a b c d p q r s (suc zero) = q
each_below a b c d p q r s (suc (suc zero)) = r
each_below a b c d p q r s (suc (suc (suc zero))) = s
each_below a b c d p q r s (suc (suc (suc (suc i)))) = lit< tt

-- the bytes that a word is made of
pub to_be_bytes-from : (n a b c d : ℕ) → a < 256 → b < 256 → c < 256 → d < 256
    → n ≡ from_be_bytes w32 (a ∷ b ∷ c ∷ d ∷ []) → to_be_bytes w32 n ≡ a ∷ b ∷ c ∷ d ∷ []
to_be_bytes-from n a b c d p q r s e = be_bytes_4 (a ∷ b ∷ c ∷ d ∷ []) n refl (each_below a b c d p q r s) e

-- the words of the next round key
pub state_of-next : (k0 k1 k2 k3 t constant : ℕ) → to_be_bytes w32 t ≡ turned_word (to_be_bytes w32 k3) constant
    → state_of (bit_xor k0 t ∷ bit_xor k1 (bit_xor k0 t) ∷ bit_xor k2 (bit_xor k1 (bit_xor k0 t))
    ∷ bit_xor k3 (bit_xor k2 (bit_xor k1 (bit_xor k0 t))) ∷ [])
    ≡ next_round_key (state_of (k0 ∷ k1 ∷ k2 ∷ k3 ∷ [])) constant
unfolding next_round_key word_after
state_of-next k0 k1 k2 k3 t constant e =
    let k : List ℕ = state_of (k0 ∷ k1 ∷ k2 ∷ k3 ∷ []) in
    let first : to_be_bytes w32 (bit_xor k0 t) ≡ word_after k constant 0 =
    to_be_bytes-xor k0 t ∙ ap (xor (to_be_bytes w32 k0)) e in
    let second : to_be_bytes w32 (bit_xor k1 (bit_xor k0 t)) ≡ word_after k constant 1 =
    to_be_bytes-xor k1 (bit_xor k0 t) ∙ ap (xor (to_be_bytes w32 k1)) first in
    let third : to_be_bytes w32 (bit_xor k2 (bit_xor k1 (bit_xor k0 t))) ≡ word_after k constant 2 =
    to_be_bytes-xor k2 (bit_xor k1 (bit_xor k0 t)) ∙ ap (xor (to_be_bytes w32 k2)) second in
    let fourth : to_be_bytes w32 (bit_xor k3 (bit_xor k2 (bit_xor k1 (bit_xor k0 t)))) ≡ word_after k constant 3 =
    to_be_bytes-xor k3 (bit_xor k2 (bit_xor k1 (bit_xor k0 t))) ∙ ap (xor (to_be_bytes w32 k3)) third in
    append-four _ _ _ _ _ _ _ _ first second third fourth
