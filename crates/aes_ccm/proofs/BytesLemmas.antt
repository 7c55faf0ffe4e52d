-- Sums of strings, and strings in blocks.
use Rattle.std.proofs.Common.{◌≡◌, ◌≢◌, ◌==◌, Bool, true, false, ℕ, zero, suc, ◌<◌, ◌≤◌, List, [], ◌∷◌, ◌++◌, length, take, drop, get_or, bit_xor, refl, ◌∙◌, ap, sym, arith}
use Rattle.std.proofs.lemmas.List.{length-drop}
use Rattle.std.proofs.lemmas.Bool.{eqb-true, eqb-false}
use Rattle.std.specs.Int.Bits.{xor_self, xor_assoc, xor_zero_r}
use Rattle.aes_ccm.specs.Bytes.{xor, padded, block_count, first_blocks, blocks}

xor-nil : (a : List ℕ) → xor a [] ≡ []
unfolding xor
xor-nil [] = refl
xor-nil (x ∷ a) = refl

pub xor-empty : (b : List ℕ) → xor [] b ≡ []
unfolding xor
xor-empty b = refl

-- a sum is as long as the shorter
pub length-xor_first : (a b : List ℕ) → length a ≤ length b → length (xor a b) ≡ length a
unfolding xor
length-xor_first [] b h = refl
length-xor_first (x ∷ a) [] h = absurd (omega arith)
length-xor_first (x ∷ a) (y ∷ b) h = ap suc (length-xor_first a b (omega arith))

pub length-xor_second : (a b : List ℕ) → length b ≤ length a → length (xor a b) ≡ length b
unfolding xor
length-xor_second [] [] h = refl
length-xor_second [] (y ∷ b) h = absurd (omega arith)
length-xor_second (x ∷ a) [] h = refl
length-xor_second (x ∷ a) (y ∷ b) h = ap suc (length-xor_second a b (omega arith))

pub get_or-xor : (a b : List ℕ) (k : ℕ) → k < length a → k < length b
    → get_or (xor a b) k 0 ≡ bit_xor (get_or a k 0) (get_or b k 0)
unfolding xor
get_or-xor [] b k p q = absurd (omega arith)
get_or-xor (x ∷ a) [] k p q = absurd (omega arith)
get_or-xor (x ∷ a) (y ∷ b) zero p q = refl
get_or-xor (x ∷ a) (y ∷ b) (suc k) p q = get_or-xor a b k (omega arith) (omega arith)

-- a sum in two parts
pub xor-append : (text front back : List ℕ)
    → xor text (front ++ back) ≡ xor (take (length front) text) front ++ xor (drop (length front) text) back
unfolding xor
xor-append text [] back = refl
xor-append [] (y ∷ front) back = refl
xor-append (x ∷ text) (y ∷ front) back = ap (λ rest. bit_xor x y ∷ rest) (xor-append text front back)

-- a sum with the same string twice
pub xor_twice : (text mask : List ℕ) → length text ≤ length mask → xor (xor text mask) mask ≡ text
unfolding xor
xor_twice [] mask h = refl
xor_twice (x ∷ text) [] h = absurd (omega arith)
xor_twice (x ∷ text) (y ∷ mask) h =
    let one : bit_xor (bit_xor x y) y ≡ x = xor_assoc x y y ∙ ap (bit_xor x) (xor_self y) ∙ xor_zero_r x in
    let rest : xor (xor text mask) mask ≡ text = xor_twice text mask (omega arith) in
    cc

-- ---- blocks

pub blocks-empty : (bytes : List ℕ) → length bytes ≡ 0 → blocks bytes ≡ []
unfolding blocks first_blocks
blocks-empty [] h = refl
blocks-empty (x ∷ bytes) h = absurd (omega arith)

pub block_count-drop : (bytes : List ℕ) → 0 < length bytes → block_count bytes ≡ suc (block_count (drop 16 bytes))
block_count-drop bytes h = omega (arith, length-drop 16 bytes)

first_blocks-suc : (n m : ℕ) (bytes : List ℕ) → m ≡ suc n → first_blocks m bytes ≡ padded (take 16 bytes) ∷ first_blocks n (drop 16 bytes)
unfolding first_blocks
first_blocks-suc n m bytes e = rw e refl

-- the first block, and those after it
pub blocks-more : (bytes : List ℕ) → 0 < length bytes → blocks bytes ≡ padded (take 16 bytes) ∷ blocks (drop 16 bytes)
unfolding blocks
blocks-more bytes h = first_blocks-suc (block_count (drop 16 bytes)) (block_count bytes) bytes (block_count-drop bytes h)

-- ---- what a test for no bytes says

pub none_from : (n : ℕ) (b : Bool) → b ≡ (n == 0) → b ≡ true → n ≡ 0
none_from n b e t = eqb-true n 0 (sym e ∙ t)

pub some_from : (n : ℕ) (b : Bool) → b ≡ (n == 0) → b ≡ false → 0 < n
some_from n b e f =
    let ne : n ≢ 0 = eqb-false n 0 (sym e ∙ f) in
    omega arith

pub true_or_false : (b : Bool) → b ≡ true → b ≡ false → ⊥
true_or_false b t f =
    let same : true ≡ false = sym t ∙ f in
    cc
