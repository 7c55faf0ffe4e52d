-- The nonce of a message (RFC 8613, 5.2).
use Rattle.std.specs.Prelude.{ℕ, ◌-◌, List, ◌∷◌, ◌++◌, length, drop, replicate}
use Rattle.std.specs.Int.{w64, to_be_bytes}
use Rattle.aes_ccm.specs.Bytes.{xor}

-- a number below 2^40 in five bytes, the most significant first
unfoldable pub five_bytes : ℕ → List ℕ
five_bytes number = drop 3 (to_be_bytes w64 number)

-- an ID of at most 7 bytes, with zeros on its left
unfoldable pub padded_id : List ℕ → List ℕ
padded_id id = replicate (7 - length id) 0 ++ id

-- the length of the ID, the ID padded to 7 bytes, and the number in 5 bytes
unfoldable pub unmasked : List ℕ → ℕ → List ℕ
unmasked id number = length id ∷ (padded_id id ++ five_bytes number)

-- the same xored with the Common IV
unfoldable pub nonce : List ℕ → List ℕ → ℕ → List ℕ
nonce iv id number = xor (unmasked id number) iv
