-- Laws of the definitions.
use Rattle.std.specs.Prelude.{◌≡◌, ℕ, ◌+◌, ◌<◌, List, length}
use Rattle.aes_ccm.specs.Field.{product, inverse}
use Rattle.aes_ccm.specs.Ccm.{sealed}

-- each byte but 0 times its inverse is 1
abbrev pub InverseIsInverse : Type 0
InverseIsInverse = (a : ℕ) → 0 < a → a < 256 → product a (inverse a) ≡ 1

-- and no other byte is its inverse
abbrev pub OneInverse : Type 0
OneInverse = (a b : ℕ) → a < 256 → b < 256 → product a b ≡ 1 → b ≡ inverse a

-- a sealing is 8 bytes longer than its plaintext
abbrev pub SealingLength : Type 0
SealingLength = (key nonce aad plain : List ℕ) → length (sealed key nonce aad plain) ≡ length plain + 8

-- at most one plaintext has a given sealing under one key, nonce and AAD
abbrev pub OnePlaintext : Type 0
OnePlaintext = (key nonce aad p q : List ℕ) → sealed key nonce aad p ≡ sealed key nonce aad q → p ≡ q
