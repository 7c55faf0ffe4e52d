-- The first blocks of a CBC-MAC.
use Rattle.std.proofs.Common.{◌≡◌, ℕ, zero, suc, ◌-◌, ◌/◌, ◌%◌, ◌<◌, List, [], ◌∷◌, ◌++◌, length, take, drop, replicate, refl, ◌∙◌, ap, sym, arith, min}
use Rattle.std.proofs.lemmas.List.{take_min, drop_min, drop-replicate}
use Rattle.std.specs.Int.{w16, to_be_bytes}
use Rattle.aes_ccm.specs.Bytes.{xor, two_bytes, padded, blocks}
use Rattle.aes_ccm.specs.Cipher.{encrypted}
use Rattle.aes_ccm.specs.Ccm.{first_block, encoded_aad, cbc_mac, mac_of_aad}
use Rattle.aes_ccm.proofs.BytesLemmas.{blocks-empty, blocks-more}

pub two_bytes-be : (n : ℕ) → n < 65536 → to_be_bytes w16 n ≡ two_bytes n
unfolding two_bytes
two_bytes-be n lt =
    let high : n / 256 % 256 ≡ n / 256 = omega arith in
    ap (λ b. b ∷ n % 256 ∷ []) high

pub first_block-bare : (nonce aad : List ℕ) (len : ℕ) → length aad ≡ 0 → 0x19 ∷ nonce ++ two_bytes len ≡ first_block nonce aad len
unfolding first_block
first_block-bare nonce [] len h = refl
first_block-bare nonce (byte ∷ aad) len h = absurd (omega arith)

pub first_block-aad : (nonce aad : List ℕ) (len : ℕ) → 0 < length aad → 0x59 ∷ nonce ++ two_bytes len ≡ first_block nonce aad len
unfolding first_block
first_block-aad nonce [] len h = absurd (omega arith)
first_block-aad nonce (byte ∷ aad) len h = refl

encoded_aad-some : (aad : List ℕ) → 0 < length aad → encoded_aad aad ≡ two_bytes (length aad) ++ aad
unfolding encoded_aad
encoded_aad-some [] h = absurd (omega arith)
encoded_aad-some (byte ∷ aad) h = refl

encoded_aad-none : (aad : List ℕ) → length aad ≡ 0 → encoded_aad aad ≡ []
unfolding encoded_aad
encoded_aad-none [] h = refl
encoded_aad-none (byte ∷ aad) h = absurd (omega arith)

pub mac_of_aad-none : (key nonce aad : List ℕ) (len : ℕ) → length aad ≡ 0
    → encrypted key (first_block nonce aad len) ≡ mac_of_aad key nonce aad len
unfolding mac_of_aad cbc_mac
mac_of_aad-none key nonce aad len h =
    let none : blocks (encoded_aad aad) ≡ [] = ap blocks (encoded_aad-none aad h) ∙ blocks-empty [] refl in
    sym (ap (cbc_mac key (encrypted key (first_block nonce aad len))) none)

encoded_blocks : (aad : List ℕ) → 0 < length aad
    → blocks (encoded_aad aad) ≡ padded (two_bytes (length aad) ++ take 14 aad) ∷ blocks (drop 14 aad)
unfolding two_bytes
encoded_blocks aad h =
    ap blocks (encoded_aad-some aad h) ∙ blocks-more (two_bytes (length aad) ++ aad) (omega arith)

pub mac_of_aad-some : (key nonce aad : List ℕ) (len n : ℕ) → 0 < length aad → n ≡ min 14 (length aad)
    → cbc_mac key (encrypted key (xor (encrypted key (first_block nonce aad len)) (padded (two_bytes (length aad) ++ take n aad))))
    (blocks (drop n aad)) ≡ mac_of_aad key nonce aad len
unfolding mac_of_aad cbc_mac
mac_of_aad-some key nonce aad len n h e =
    let x : List ℕ = encrypted key (first_block nonce aad len) in
    let front : take n aad ≡ take 14 aad = ap (λ m. take m aad) e ∙ take_min 14 aad in
    let back : drop n aad ≡ drop 14 aad = ap (λ m. drop m aad) e ∙ drop_min 14 aad in
    ap (λ f. cbc_mac key (encrypted key (xor x (padded (two_bytes (length aad) ++ f)))) (blocks (drop n aad))) front
    ∙ ap (λ b. cbc_mac key (encrypted key (xor x (padded (two_bytes (length aad) ++ take 14 aad)))) (blocks b)) back
    ∙ sym (ap (cbc_mac key x) (encoded_blocks aad h))

-- the next block of a chain
pub cbc_mac-more : (key mac bytes : List ℕ) (n : ℕ) → 0 < length bytes → n ≡ min 16 (length bytes)
    → cbc_mac key (encrypted key (xor mac (padded (take n bytes)))) (blocks (drop n bytes)) ≡ cbc_mac key mac (blocks bytes)
unfolding cbc_mac
cbc_mac-more key mac bytes n h e =
    let front : take n bytes ≡ take 16 bytes = ap (λ m. take m bytes) e ∙ take_min 16 bytes in
    let back : drop n bytes ≡ drop 16 bytes = ap (λ m. drop m bytes) e ∙ drop_min 16 bytes in
    ap (λ f. cbc_mac key (encrypted key (xor mac (padded f))) (blocks (drop n bytes))) front
    ∙ ap (λ b. cbc_mac key (encrypted key (xor mac (padded (take 16 bytes)))) (blocks b)) back
    ∙ sym (ap (cbc_mac key mac) (blocks-more bytes h))

pub cbc_mac-none : (key mac bytes : List ℕ) → length bytes ≡ 0 → cbc_mac key mac (blocks bytes) ≡ mac
unfolding cbc_mac
cbc_mac-none key mac bytes h = ap (cbc_mac key mac) (blocks-empty bytes h)

-- zeros after the length and the first bytes of the AAD
pub padded-length : (a b : ℕ) (bytes : List ℕ) (n : ℕ) → n ≡ length bytes
    → (a ∷ b ∷ []) ++ (bytes ++ drop n (replicate 14 0)) ≡ padded ((a ∷ b ∷ []) ++ bytes)
unfolding padded
padded-length a b bytes n e =
    let zeros : drop n (replicate 14 zero) ≡ replicate (14 - length bytes) zero = drop-replicate n 14 0 ∙ ap (λ m. replicate (14 - m) 0) e in
    let fewer : 14 - length bytes ≡ 16 - suc (suc (length bytes)) = omega arith in
    ap (λ zs. a ∷ b ∷ (bytes ++ zs)) (zeros ∙ ap (λ m. replicate m 0) fewer)
