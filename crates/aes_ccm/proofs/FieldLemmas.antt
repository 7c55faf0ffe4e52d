-- The inverse in the field, by a test of every two bytes.
use Rattle.std.proofs.Common.{◌≡◌, ℕ, ◌<◌, ◌==◌, Bool, true, ◌||◌, not, refl, arith, inl, inr}
use Rattle.std.proofs.lemmas.Bool.{eqb-true, eqb-false, or_cases, not-true}
use Rattle.aes_ccm.specs.Field.{polynomial_product, remainder, product, inverse_below, inverse}
use Rattle.aes_ccm.proofs.TableRules.{all_below, all_below_at}

abbrev has_inverse : ℕ → Bool
has_inverse a = (a == 0) || (product a (inverse a) == 1)

all_have_inverses : all_below has_inverse 256 ≡ true
unfolding polynomial_product remainder product inverse_below inverse
all_have_inverses = refl

pub product-inverse : (a : ℕ) → 0 < a → a < 256 → product a (inverse a) ≡ 1
product-inverse a some lt = elim (or_cases (a == 0) (product a (inverse a) == 1) (all_below_at has_inverse 256 a all_have_inverses lt)) [
  | inl none ↦ let e = eqb-true a 0 none in absurd (omega arith)
  | inr one ↦ eqb-true (product a (inverse a)) 1 one
]

-- no byte but `b` has the product 1 with a
abbrev is_only : ℕ → ℕ → ℕ → Bool
is_only a b c = not (product a c == 1) || (c == b)

abbrev has_one_inverse : ℕ → Bool
has_one_inverse a = all_below (is_only a (inverse a)) 256

all_have_one : all_below has_one_inverse 256 ≡ true
unfolding polynomial_product remainder product inverse_below inverse
all_have_one = refl

pub inverse-only : (a b : ℕ) → a < 256 → b < 256 → product a b ≡ 1 → b ≡ inverse a
inverse-only a b la lb e =
    let all = all_below_at has_one_inverse 256 a all_have_one la in
    elim (or_cases (not (product a b == 1)) (b == inverse a) (all_below_at (is_only a (inverse a)) 256 b all lb)) [
      | inl other ↦ absurd (eqb-false (product a b) 1 (not-true (product a b == 1) other) e)
      | inr same ↦ eqb-true b (inverse a) same
    ]
