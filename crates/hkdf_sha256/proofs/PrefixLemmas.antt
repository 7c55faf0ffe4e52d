-- A shorter output of HKDF and a longer one.
use Rattle.std.proofs.Common.{◌≡◌, ℕ, zero, suc, ◌+◌, ◌-◌, ◌≤◌, List, [], ◌∷◌, ◌++◌, ◌∙◌, take, ap, sym, refl, arith}
use Rattle.std.specs.Int.{div_ceil}
use Rattle.std.proofs.lemmas.Grind.{div_ceil_times}
use Rattle.std.proofs.lemmas.List.{append_assoc, append-nil, take-append-le, take-take, take_all}
use Rattle.hkdf_sha256.specs.Hmac.{hmac_sha256}
use Rattle.hkdf_sha256.specs.Hkdf.{output_block, output_blocks, output_keying_material}
use Rattle.hkdf_sha256.proofs.OutputLemmas.{length-output_blocks, output_blocks-next, length-hmac_sha256}

-- the first blocks of more are the same
blocks_begin : (prk info : List ℕ) (a k : ℕ) → (rest : List ℕ) × (output_blocks prk info (a + k) ≡ output_blocks prk info a ++ rest)
blocks_begin prk info a zero = let same : a + 0 ≡ a = omega arith in ([], rw (same, append-nil) refl)
blocks_begin prk info a (suc k) =
    let before = blocks_begin prk info a k in
    let next : a + suc k ≡ (a + k) + 1 = omega arith in
    let last = output_block prk info ((a + k) + 1) in (
      before.0 ++ last,
      rw next (output_blocks-next prk info (a + k) ∙ ap (λ front. front ++ last) before.1 ∙ append_assoc (output_blocks prk info a) before.0 last),
    )

-- a shorter output is a prefix of a longer one
pub shorter_output : (prk info : List ℕ) (l m : ℕ) → l ≤ m
    → output_keying_material prk info l ≡ take l (output_keying_material prk info m)
shorter_output prk info l m below =
    let few = div_ceil l 32 in
    let many = div_ceil m 32 in
    let reach = (div_ceil_times l 32 (omega arith)).0 in
    let more : many ≡ few + (many - few) = omega arith in
    let begun = blocks_begin prk info few (many - few) in
    let whole : output_blocks prk info many ≡ output_blocks prk info few ++ begun.0 = ap (output_blocks prk info) more ∙ begun.1 in
    sym (take-take l m (output_blocks prk info many) below ∙ ap (take l) whole
    ∙ take-append-le l (output_blocks prk info few) begun.0 (omega (arith, reach, length-output_blocks prk info few)))

-- an output of a block is one code
pub one_block : (prk info : List ℕ) → output_keying_material prk info 32 ≡ hmac_sha256 prk (info ++ 1 ∷ [])
unfolding output_blocks output_block
one_block prk info = take_all 32 _ (omega (arith, length-hmac_sha256 prk (info ++ 1 ∷ [])))
