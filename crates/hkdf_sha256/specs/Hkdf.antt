-- HKDF with SHA-256 (RFC 5869). A block of output has HashLen = 32 bytes.
use Rattle.std.specs.Prelude.{ℕ, zero, suc, List, [], ◌∷◌, ◌++◌, take}
use Rattle.std.specs.Int.{div_ceil}
use Rattle.hkdf_sha256.specs.Hmac.{hmac_sha256}

-- PRK = HMAC-Hash(salt, IKM) (2.2)
abbrev pub pseudorandom_key : List ℕ → List ℕ → List ℕ
pseudorandom_key salt secret = hmac_sha256 salt secret

-- T(0) is empty, and T(N) = HMAC-Hash(PRK, T(N-1) | info | N), with N as one byte (2.3)
unfoldable pub output_block : List ℕ → List ℕ → ℕ → List ℕ
output_block prk info zero = []
output_block prk info (suc n) = hmac_sha256 prk (output_block prk info n ++ info ++ suc n ∷ [])

-- T(1) | T(2) | .. | T(N) (2.3)
unfoldable pub output_blocks : List ℕ → List ℕ → ℕ → List ℕ
output_blocks prk info zero = []
output_blocks prk info (suc n) = output_blocks prk info n ++ output_block prk info (suc n)

-- OKM, the first L bytes of T, which has N = ceil(L / 32) blocks (2.3)
abbrev pub output_keying_material : List ℕ → List ℕ → ℕ → List ℕ
output_keying_material prk info l = take l (output_blocks prk info (div_ceil l 32))
