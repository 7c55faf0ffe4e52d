-- What each entry of the tables is: a test that is computed over the whole table, and the fact at each entry.
use Rattle.std.proofs.Common.{◌≡◌, ℕ, zero, suc, ◌<◌, ◌==◌, Bool, true, ◌&&◌, List, [], ◌∷◌, slice_index, refl, ◌∙◌, ap, arith, inl, inr}
use Rattle.std.proofs.lemmas.Bool.{and_parts, eqb-true, cases_lt}
use Rattle.std.specs.Int.{w32, to_be_bytes}
use Rattle.aes_ccm.specs.declared.tables.TheConstants.{SBOX, ROUND_CONSTANTS, FIRST, SECOND, THIRD, FOURTH}
use Rattle.aes_ccm.specs.Field.{polynomial_product, remainder, product, inverse_below, inverse, power_of_x}
use Rattle.aes_ccm.specs.State.{affine, substitute}
use Rattle.aes_ccm.specs.Words.{first_row, second_row, third_row, fourth_row}

abbrev pub all_below : (ℕ → Bool) → ℕ → Bool
all_below p zero = true
all_below p (suc n) = p n && all_below p n

pub all_below_at : (p : ℕ → Bool) (n k : ℕ) → all_below p n ≡ true → k < n → p k ≡ true
all_below_at p zero k h lt = absurd (omega arith)
all_below_at p (suc n) k h lt =
    let parts = and_parts (p n) (all_below p n) h in
    elim (cases_lt k n) [
      | inl below ↦ all_below_at p n k parts.1 below
      | inr top ↦
          let e : k ≡ n = omega arith in
          rw e parts.0
    ]

abbrev is_substitute : ℕ → Bool
is_substitute b = slice_index SBOX b == substitute b

are_substitutes : all_below is_substitute 256 ≡ true
unfolding polynomial_product remainder product inverse_below inverse affine substitute
are_substitutes = refl

pub SBOX-at : (b : ℕ) → b < 256 → slice_index SBOX b ≡ substitute b
SBOX-at b lt = eqb-true (slice_index SBOX b) (substitute b) (all_below_at is_substitute 256 b are_substitutes lt)

abbrev is_power : ℕ → Bool
is_power n = slice_index ROUND_CONSTANTS n == power_of_x n

are_powers : all_below is_power 10 ≡ true
unfolding polynomial_product remainder product power_of_x
are_powers = refl

pub ROUND_CONSTANTS-at : (n : ℕ) → n < 10 → slice_index ROUND_CONSTANTS n ≡ power_of_x n
ROUND_CONSTANTS-at n lt = eqb-true (slice_index ROUND_CONSTANTS n) (power_of_x n) (all_below_at is_power 10 n are_powers lt)

-- ---- the tables of words

abbrev is_word : ℕ → ℕ → ℕ → ℕ → ℕ → Bool
is_word w a b c d = ((slice_index (to_be_bytes w32 w) 0 == a) && (slice_index (to_be_bytes w32 w) 1 == b))
    && ((slice_index (to_be_bytes w32 w) 2 == c) && (slice_index (to_be_bytes w32 w) 3 == d))

is_word-true : (w a b c d : ℕ) → is_word w a b c d ≡ true → to_be_bytes w32 w ≡ a ∷ b ∷ c ∷ d ∷ []
is_word-true w a b c d h =
    let halves = and_parts ((slice_index (to_be_bytes w32 w) 0 == a) && (slice_index (to_be_bytes w32 w) 1 == b))
    ((slice_index (to_be_bytes w32 w) 2 == c) && (slice_index (to_be_bytes w32 w) 3 == d)) h in
    let high = and_parts (slice_index (to_be_bytes w32 w) 0 == a) (slice_index (to_be_bytes w32 w) 1 == b) halves.0 in
    let low = and_parts (slice_index (to_be_bytes w32 w) 2 == c) (slice_index (to_be_bytes w32 w) 3 == d) halves.1 in
    let e0 = eqb-true (slice_index (to_be_bytes w32 w) 0) a high.0 in
    let e1 = eqb-true (slice_index (to_be_bytes w32 w) 1) b high.1 in
    let e2 = eqb-true (slice_index (to_be_bytes w32 w) 2) c low.0 in
    let e3 = eqb-true (slice_index (to_be_bytes w32 w) 3) d low.1 in
    cc

-- w has these bytes
abbrev has_bytes : ℕ → List ℕ → Bool
has_bytes w bs = is_word w (slice_index bs 0) (slice_index bs 1) (slice_index bs 2) (slice_index bs 3)

abbrev is_first_word : ℕ → Bool
is_first_word b = has_bytes (slice_index FIRST b) (first_row (slice_index SBOX b))

are_first_words : all_below is_first_word 256 ≡ true
unfolding polynomial_product remainder product
are_first_words = refl

pub FIRST-at : (b : ℕ) → b < 256 → to_be_bytes w32 (slice_index FIRST b) ≡ first_row (substitute b)
FIRST-at b lt =
    let word = is_word-true _ _ _ _ _ (all_below_at is_first_word 256 b are_first_words lt) in
    word ∙ ap first_row (SBOX-at b lt)

abbrev is_second_word : ℕ → Bool
is_second_word b = has_bytes (slice_index SECOND b) (second_row (slice_index SBOX b))

are_second_words : all_below is_second_word 256 ≡ true
unfolding polynomial_product remainder product
are_second_words = refl

pub SECOND-at : (b : ℕ) → b < 256 → to_be_bytes w32 (slice_index SECOND b) ≡ second_row (substitute b)
SECOND-at b lt =
    let word = is_word-true _ _ _ _ _ (all_below_at is_second_word 256 b are_second_words lt) in
    word ∙ ap second_row (SBOX-at b lt)

abbrev is_third_word : ℕ → Bool
is_third_word b = has_bytes (slice_index THIRD b) (third_row (slice_index SBOX b))

are_third_words : all_below is_third_word 256 ≡ true
unfolding polynomial_product remainder product
are_third_words = refl

pub THIRD-at : (b : ℕ) → b < 256 → to_be_bytes w32 (slice_index THIRD b) ≡ third_row (substitute b)
THIRD-at b lt =
    let word = is_word-true _ _ _ _ _ (all_below_at is_third_word 256 b are_third_words lt) in
    word ∙ ap third_row (SBOX-at b lt)

abbrev is_fourth_word : ℕ → Bool
is_fourth_word b = has_bytes (slice_index FOURTH b) (fourth_row (slice_index SBOX b))

are_fourth_words : all_below is_fourth_word 256 ≡ true
unfolding polynomial_product remainder product
are_fourth_words = refl

pub FOURTH-at : (b : ℕ) → b < 256 → to_be_bytes w32 (slice_index FOURTH b) ≡ fourth_row (substitute b)
FOURTH-at b lt =
    let word = is_word-true _ _ _ _ _ (all_below_at is_fourth_word 256 b are_fourth_words lt) in
    word ∙ ap fourth_row (SBOX-at b lt)
