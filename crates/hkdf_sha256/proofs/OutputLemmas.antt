-- The output of HKDF, block after block.
use Rattle.std.proofs.Common.{◌≡◌, ℕ, zero, suc, ◌+◌, ◌-◌, ◌*◌, ◌≤◌, min, inl, inr, List, [], ◌∷◌, ◌++◌, length, take, drop, ap, sym, ◌∙◌, arith, refl, add-one}
use Rattle.std.proofs.lemmas.List.{append_assoc, take_all, drop_all, length-append, length-drop, nil_from_length, drop-drop, length-take-le, take_min}
use Rattle.std.proofs.lemmas.Bool.{cases_lt}
use Rattle.std.proofs.Math.Seq.{take-append_seam, take-append-add}
use Rattle.sha2.proofs.Facts256.{length-sha256}
use Rattle.hkdf_sha256.specs.Hmac.{hmac_sha256}
use Rattle.hkdf_sha256.specs.Hkdf.{output_block, output_blocks}

pub length-hmac_sha256 : (key text : List ℕ) → length (hmac_sha256 key text) ≡ 32
unfolding hmac_sha256
length-hmac_sha256 key text = length-sha256 _

pub output_block-next : (prk info : List ℕ) (n : ℕ)
    → output_block prk info (n + 1) ≡ hmac_sha256 prk (output_block prk info n ++ info ++ (n + 1) ∷ [])
unfolding output_block
output_block-next prk info n = rw add-one refl

pub output_blocks-next : (prk info : List ℕ) (n : ℕ)
    → output_blocks prk info (n + 1) ≡ output_blocks prk info n ++ output_block prk info (n + 1)
unfolding output_blocks
output_blocks-next prk info n = rw add-one refl

length-output_block : (prk info : List ℕ) (n : ℕ) → length (output_block prk info (n + 1)) ≡ 32
length-output_block prk info n = rw output_block-next (length-hmac_sha256 _ _)

pub length-output_blocks : (prk info : List ℕ) (n : ℕ) → length (output_blocks prk info n) ≡ n * 32
unfolding output_blocks
length-output_blocks prk info zero = refl
length-output_blocks prk info (suc n) =
    let last : length (output_block prk info (suc n)) ≡ 32 = rw (← add-one) (length-output_block prk info n) in
    omega (arith, length-append (output_blocks prk info n) (output_block prk info (suc n)), length-output_blocks prk info n)

take_comm : {A : Type 0} → (m n : ℕ) (xs : List A) → take m (take n xs) ≡ take n (take m xs)
take_comm zero zero xs = refl
take_comm zero (suc n) xs = refl
take_comm (suc m) zero xs = refl
take_comm (suc m) (suc n) [] = refl
take_comm (suc m) (suc n) (x ∷ xs) = ap (λ ys. x ∷ ys) (take_comm m n xs)

-- a block cut where what follows it begins
block_cut : (block rest : List ℕ) (m : ℕ) → length rest ≡ m - length block → take m (block ++ rest) ≡ take m block ++ rest
block_cut [] rest zero long = take_all 0 rest (omega (arith, long))
block_cut [] rest (suc m) long = take_all (suc m) rest (omega (arith, long))
block_cut (x ∷ block) rest zero long = sym (nil_from_length rest (omega (arith, long)))
block_cut (x ∷ block) rest (suc m) long = ap (λ ys. x ∷ ys) (block_cut block rest m (omega arith))

drop_min : (xs : List ℕ) (n : ℕ) → drop (min (length xs) n) xs ≡ drop n xs
drop_min xs n = elim (cases_lt (length xs) n) [
  | inl below ↦ let e : min (length xs) n ≡ length xs = omega arith in rw (e, drop_all (length xs) xs (omega arith), drop_all n xs (omega arith)) refl
  | inr above ↦ let e : min (length xs) n ≡ n = omega arith in rw e refl
]

-- a block written over an output, as far as the output reaches
pub block_written : (output block : List ℕ) (start end : ℕ) → length block ≡ 32 → start ≤ length output
    → end ≡ min (length output) (start + 32)
    → take start output ++ (take (end - start) block ++ drop (end - start) (drop start output))
    ≡ take (length output) (take start output ++ block ++ drop (start + 32) output)
block_written output block start end long inside e =
    let front : length (take start output) ≡ start = length-take-le start output inside in
    let room : length output ≡ length (take start output) + (length output - start) = omega arith in
    let reach : start + (end - start) ≡ min (length output) (start + 32) = omega arith in
    let size : end - start ≡ min (length output - start) (length block) = omega arith in
    let rest = drop (start + 32) output in
    let cut = block_cut block rest (length output - start) (omega (arith, length-drop (start + 32) output)) in
    let goes : take (length output) (take start output ++ (block ++ rest)) ≡ take start output ++ (take (length output - start) block ++ rest) =
    ap (λ n. take n (take start output ++ (block ++ rest))) room ∙ take-append-add (take start output) (block ++ rest) (length output - start)
    ∙ ap (λ ys. take start output ++ ys) cut in
    rw (drop-drop, reach, drop_min, size, take_min, append_assoc) (sym goes)

-- one more block of the output
block_after_blocks : (output blocks block : List ℕ) (start : ℕ) → length blocks ≡ start → length block ≡ 32
    → start ≤ length output → take start output ≡ take (length output) blocks
    → take (start + 32) (take (length output) (take start output ++ block ++ drop (start + 32) output))
    ≡ take (length output) (blocks ++ block)
block_after_blocks output blocks block start long long' inside e =
    let written : take start output ≡ blocks = e ∙ take_all _ _ (omega arith) in
    let size : start + 32 ≡ length (blocks ++ block) = omega (arith, length-append blocks block) in
    let whole : take (start + 32) (blocks ++ block ++ drop (start + 32) output) ≡ blocks ++ block =
    ap (λ n. take n (blocks ++ block ++ drop (start + 32) output)) size ∙ take-append_seam (blocks ++ block) (drop (start + 32) output) in
    rw written (take_comm (start + 32) (length output) _ ∙ ap (take (length output)) whole)

-- the same, of the blocks of a key and an info
pub blocks_more : (prk info output output' block : List ℕ) (place : ℕ) → place * 32 ≤ length output
    → take (place * 32) output ≡ take (length output) (output_blocks prk info place)
    → block ≡ output_block prk info (place + 1)
    → output' ≡ take (length output) (take (place * 32) output ++ block ++ drop (place * 32 + 32) output)
    → length output' ≡ length output
    → take ((place + 1) * 32) output' ≡ take (length output') (output_blocks prk info (place + 1))
blocks_more prk info output output' block place inside written made put same =
    let further = block_after_blocks output (output_blocks prk info place) block (place * 32)
    (length-output_blocks prk info place) (ap length made ∙ length-output_block prk info place) inside written in
    let start : (place + 1) * 32 ≡ place * 32 + 32 = omega arith in
    rw (start, same, put, output_blocks-next) (further ∙ ap (λ b. take (length output) (output_blocks prk info place ++ b)) made)

-- all blocks are written
pub blocks_whole : (prk info output : List ℕ) (place size : ℕ) → size ≡ length output → size ≤ place * 32
    → take (place * 32) output ≡ take (length output) (output_blocks prk info place)
    → output ≡ take size (output_blocks prk info place)
blocks_whole prk info output place size is reach written =
    sym (take_all _ _ (omega arith)) ∙ written ∙ ap (λ n. take n (output_blocks prk info place)) (sym is)

pub output_block-zero : (prk info : List ℕ) (n : ℕ) → n ≡ 0 → [] ≡ output_block prk info n
unfolding output_block
output_block-zero prk info zero e = refl
output_block-zero prk info (suc n) e = cc
