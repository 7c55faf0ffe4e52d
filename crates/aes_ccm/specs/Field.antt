-- The field of 256 elements (FIPS 197, 4): a byte is a polynomial over the field of two, its bit i the coefficient of
-- x^i. The sum of two polynomials is their `bit_xor`.
use Rattle.std.specs.Prelude.{ℕ, zero, suc, ◌+◌, ◌*◌, ◌^◌, ◌==◌, bit_xor, if◌then◌else◌}
use Rattle.std.specs.Int.{bit_at}

-- the product of two polynomials, the second of degree below n
unfoldable pub polynomial_product : ℕ → ℕ → ℕ → ℕ
polynomial_product a b zero = 0
polynomial_product a b (suc n) = bit_xor (polynomial_product a b n) (bit_at b n * (a * 2 ^ n))

-- the remainder of a polynomial of degree below 8 + n modulo x^8 + x^4 + x^3 + x + 1
unfoldable pub remainder : ℕ → ℕ → ℕ
remainder a zero = a
remainder a (suc n) = remainder (bit_xor a (bit_at a (8 + n) * (0x11B * 2 ^ n))) n

-- the product of two bytes in the field (4.2)
unfoldable pub product : ℕ → ℕ → ℕ
product a b = remainder (polynomial_product a b 8) 7

-- the number below n whose product with a is 1, and 0 where there is none
unfoldable pub inverse_below : ℕ → ℕ → ℕ
inverse_below a zero = 0
inverse_below a (suc n) = if product a n == 1 then n else inverse_below a n

-- the multiplicative inverse of a byte, and 0 for 0 (4.4)
unfoldable pub inverse : ℕ → ℕ
inverse a = inverse_below a 256

-- x^n
unfoldable pub power_of_x : ℕ → ℕ
power_of_x zero = 1
power_of_x (suc n) = product 2 (power_of_x n)
