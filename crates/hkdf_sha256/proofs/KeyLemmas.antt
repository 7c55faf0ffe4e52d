-- Keys of more than a block.
use Rattle.std.proofs.Common.{◌≡◌, ℕ, ◌<◌, List, ◌++◌, ◌∙◌, length, nat_lt, true, false, replicate, ◌-◌, ap, sym, if◌then◌else◌, arith}
use Rattle.std.proofs.lemmas.Bool.Decides.{nat_tests}
use Rattle.sha2.specs.Sha256.{sha256}
use Rattle.sha2.proofs.Facts256.{length-sha256}
use Rattle.hkdf_sha256.specs.Hmac.{short_key, xor_each, hmac_sha256}

short_key-of_digest : (key : List ℕ) → 64 < length key → short_key (sha256 key) ≡ short_key key
short_key-of_digest key long =
    let digest = length-sha256 key in
    let short : nat_lt 64 (length (sha256 key)) ≡ false = grind (arith, nat_tests) in
    let whole : nat_lt 64 (length key) ≡ true = grind (arith, nat_tests) in
    ap (λ b. if b then sha256 (sha256 key) else sha256 key) short ∙ sym (ap (λ b. if b then sha256 key else key) whole)

-- a key of more than a block stands for its digest
pub hmac_sha256-of_digest : (key text : List ℕ) → 64 < length key → hmac_sha256 key text ≡ hmac_sha256 (sha256 key) text
unfolding hmac_sha256
hmac_sha256-of_digest key text long =
    let block : List ℕ → List ℕ = λ short. short ++ replicate (64 - length short) 0 in
    sym (ap (λ short. sha256 (xor_each 0x5c (block short) ++ sha256 (xor_each 0x36 (block short) ++ text))) (short_key-of_digest key long))
