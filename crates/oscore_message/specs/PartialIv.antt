-- Partial IVs (RFC 8613, 6.1): a number below 2^40 in as few bytes as can be, at least one.
use Rattle.std.specs.Prelude.{ℕ, zero, suc, ◌-◌, List, [], ◌∷◌, ◌++◌, length, replicate, Bool, true, false}
use Rattle.std.specs.Int.{w64, from_be_bytes}
use Rattle.oscore_context.specs.Nonce.{five_bytes}

-- without leading zeros, but never without the last byte
abbrev pub shortest : List ℕ → List ℕ
shortest [] = []
shortest (byte ∷ []) = byte ∷ []
shortest (zero ∷ byte ∷ bytes) = shortest (byte ∷ bytes)
shortest (suc n ∷ byte ∷ bytes) = suc n ∷ byte ∷ bytes

unfoldable pub partial_iv : ℕ → List ℕ
partial_iv number = shortest (five_bytes number)

-- the number of at most 8 bytes, the most significant first
unfoldable pub number_of : List ℕ → ℕ
number_of bytes = from_be_bytes w64 (replicate (8 - length bytes) 0 ++ bytes)

-- a zero comes before another byte
abbrev pub has_leading_zero : List ℕ → Bool
has_leading_zero [] = false
has_leading_zero (byte ∷ []) = false
has_leading_zero (zero ∷ byte ∷ bytes) = true
has_leading_zero (suc n ∷ byte ∷ bytes) = false
