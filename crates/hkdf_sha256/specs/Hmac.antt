-- HMAC with SHA-256 (RFC 2104; SHA-256 is FIPS 180-4, 6.2). A block has B = 64 bytes.
use Rattle.std.specs.Prelude.{ℕ, ◌-◌, List, ◌++◌, length, map, nat_lt, replicate, bit_xor, if◌then◌else◌}
use Rattle.sha2.specs.Sha256.{sha256}

-- K, made short: a key of more than a block is hashed first (2)
abbrev pub short_key : List ℕ → List ℕ
short_key key = if nat_lt 64 (length key) then sha256 key else key

-- K as one block: zeros are appended up to 64 bytes (2, step 1)
abbrev pub key_block : List ℕ → List ℕ
key_block key = short_key key ++ replicate (64 - length (short_key key)) 0

-- a block with one byte repeated xored into it (2, steps 2 and 5)
abbrev pub xor_each : ℕ → List ℕ → List ℕ
xor_each pad block = map (λ byte. bit_xor byte pad) block

-- H(K XOR opad, H(K XOR ipad, text)), where ipad is 0x36 and opad 0x5c in each byte (2)
unfoldable pub hmac_sha256 : List ℕ → List ℕ → List ℕ
hmac_sha256 key text =
    sha256 (xor_each 0x5c (key_block key) ++ sha256 (xor_each 0x36 (key_block key) ++ text))
