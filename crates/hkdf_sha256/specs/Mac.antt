-- What a code in progress has taken in.
use Rattle.std.specs.Prelude.{ℕ, List, ◌++◌}
use Rattle.sha2.specs.Hashers.{Holds256}
use Rattle.hkdf_sha256.specs.declared.mac.Mac.{Mac}
use Rattle.hkdf_sha256.specs.Hmac.{key_block, xor_each}

-- the code in progress has this key and this text
pub record Authenticates (mac : Mac) (key text : List ℕ) : Type 0 where
  pub inner : Holds256 mac.inner (xor_each 0x36 (key_block key) ++ text)
  pub outer : Holds256 mac.outer (xor_each 0x5c (key_block key))
