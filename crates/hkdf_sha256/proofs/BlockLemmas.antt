-- Blocks that are filled and changed in place.
use Rattle.std.proofs.Common.{◌≡◌, ℕ, ◌+◌, ◌-◌, ◌<◌, List, ◌++◌, length, get_or, set, take, drop, replicate, bit_xor, ap, arith}
use Rattle.std.proofs.lemmas.Grind.{elements}
use Rattle.std.proofs.lemmas.List.{drop-replicate}
use Rattle.std.proofs.lemmas.List.Edits.{map_over_more}
use Rattle.hkdf_sha256.specs.Hmac.{xor_each}

-- zeros whose first bytes are overwritten
pub zeros_behind : (bytes : List ℕ) (n : ℕ) → bytes ++ drop (length bytes) (replicate n 0) ≡ bytes ++ replicate (n - length bytes) 0
zeros_behind bytes n = ap (λ zeros. bytes ++ zeros) (drop-replicate (length bytes) n 0)

-- one more byte xored in place
pub xor_each_more : (pad : ℕ) (block bytes : List ℕ) (i : ℕ) → i < length block → i < length bytes
    → bytes ≡ xor_each pad (take i block) ++ drop i block
    → set bytes i (bit_xor (get_or bytes i 0) pad) ≡ xor_each pad (take (i + 1) block) ++ drop (i + 1) block
xor_each_more pad block bytes i inside inside' e =
    let same : get_or bytes i 0 ≡ get_or bytes i (get_or bytes i 0) = grind (arith, elements) in
    map_over_more (λ byte. bit_xor byte pad) block bytes i (get_or bytes i 0) inside e same
