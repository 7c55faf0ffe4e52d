-- A nonce has one ID and one number.
use Rattle.std.proofs.Common.{◌≡◌, ℕ, ◌-◌, ◌/◌, ◌%◌, ◌^◌, ◌<◌, ◌≤◌, List, [], ◌∷◌, ◌++◌, length, take, drop, replicate, refl, ap, sym, ◌∙◌, arith}
use Rattle.std.proofs.lemmas.List.{take_at, drop_at, append_cancel_left, length-append, take-replicate, drop-replicate, append-nil}
use Rattle.std.proofs.lemmas.Nat.{from_be_bytes-to_be_bytes_8}
use Rattle.std.proofs.lemmas.Grind.{common_steps}
use Rattle.std.specs.Int.{w64, to_be_bytes, from_be_bytes}
use Rattle.aes_ccm.specs.Bytes.{xor}
use Rattle.aes_ccm.proofs.BytesLemmas.{xor_twice}
use Rattle.oscore_context.specs.Nonce.{five_bytes, padded_id, unmasked, nonce}

pub length-padded_id : (id : List ℕ) → length id ≤ 7 → length (padded_id id) ≡ 7
unfolding padded_id
length-padded_id id h = grind (arith, common_steps)

pub length-five_bytes : (number : ℕ) → length (five_bytes number) ≡ 5
unfolding five_bytes
length-five_bytes number = refl

pub length-unmasked : (id : List ℕ) (number : ℕ) → length id ≤ 7 → length (unmasked id number) ≡ 13
unfolding unmasked
length-unmasked id number h = omega (arith, length-append (padded_id id) (five_bytes number), length-padded_id id h, length-five_bytes number)

div_small : (n d : ℕ) → n < d → n / d ≡ 0
div_small n d h = grind (arith, common_steps)

nothing_left : (k : ℕ) → k - k ≡ 0
nothing_left k = omega arith

same_unmasked : (iv i j : List ℕ) (n m : ℕ) → length iv ≡ 13 → length i ≤ 7 → length j ≤ 7
    → nonce iv i n ≡ nonce iv j m → unmasked i n ≡ unmasked j m
unfolding nonce
same_unmasked iv i j n m hv hi hj e =
    sym (xor_twice (unmasked i n) iv (omega (arith, length-unmasked i n hi)))
    ∙ ap (λ v. xor v iv) e
    ∙ xor_twice (unmasked j m) iv (omega (arith, length-unmasked j m hj))

same_length : (i j : List ℕ) (n m : ℕ) → unmasked i n ≡ unmasked j m → length i ≡ length j
unfolding unmasked
same_length i j n m e = cc

same_rest : (i j : List ℕ) (n m : ℕ) → unmasked i n ≡ unmasked j m → padded_id i ++ five_bytes n ≡ padded_id j ++ five_bytes m
unfolding unmasked
same_rest i j n m e = cc

same_padded : (i j : List ℕ) → length i ≡ length j → padded_id i ≡ padded_id j → i ≡ j
unfolding padded_id
same_padded i j h e =
    let f : replicate (7 - length i) 0 ++ i ≡ replicate (7 - length i) 0 ++ j = e ∙ ap (λ n. replicate (7 - n) 0 ++ j) (sym h) in
    append_cancel_left (replicate (7 - length i) 0) i j f

-- a number below 2^40 has three zeros before its last five bytes
pub three_zeros : (n : ℕ) → n < 2 ^ 40 → to_be_bytes w64 n ≡ 0 ∷ 0 ∷ 0 ∷ five_bytes n
unfolding five_bytes
three_zeros n h =
    let a : n / 2 ^ 56 % 256 ≡ 0 = ap (λ q. q % 256) (div_small n (2 ^ 56) (omega arith)) in
    let b : n / 2 ^ 48 % 256 ≡ 0 = ap (λ q. q % 256) (div_small n (2 ^ 48) (omega arith)) in
    let d : n / 2 ^ 40 % 256 ≡ 0 = ap (λ q. q % 256) (div_small n (2 ^ 40) h) in
    cc

same_five : (n m : ℕ) → n < 2 ^ 40 → m < 2 ^ 40 → five_bytes n ≡ five_bytes m → n ≡ m
same_five n m hn hm e =
    let all : to_be_bytes w64 n ≡ to_be_bytes w64 m = three_zeros n hn ∙ ap (λ bytes. 0 ∷ 0 ∷ 0 ∷ bytes) e ∙ sym (three_zeros m hm) in
    sym (from_be_bytes-to_be_bytes_8 n (omega arith)) ∙ ap (from_be_bytes w64) all ∙ from_be_bytes-to_be_bytes_8 m (omega arith)

pub one_id_and_number : (iv i j : List ℕ) (n m : ℕ) → length iv ≡ 13 → length i ≤ 7 → length j ≤ 7 → n < 2 ^ 40 → m < 2 ^ 40
    → nonce iv i n ≡ nonce iv j m → (i ≡ j) × (n ≡ m)
one_id_and_number iv i j n m hv hi hj hn hm e =
    let u = same_unmasked iv i j n m hv hi hj e in
    let r = same_rest i j n m u in
    let p : padded_id i ≡ padded_id j = sym (take_at (padded_id i) (five_bytes n) 7 (length-padded_id i hi)) ∙ ap (take 7) r
    ∙ take_at (padded_id j) (five_bytes m) 7 (length-padded_id j hj) in
    let f : five_bytes n ≡ five_bytes m = sym (drop_at (padded_id i) (five_bytes n) 7 (length-padded_id i hi)) ∙ ap (drop 7) r
    ∙ drop_at (padded_id j) (five_bytes m) 7 (length-padded_id j hj) in
    (same_padded i j (same_length i j n m u) p, same_five n m hn hm f)

-- an ID written over the last of seven zeros
pub written_last : (id now : List ℕ) (n : ℕ) → now ≡ id → n ≡ length id → n ≤ 7
    → take (7 - n) (replicate 7 0) ++ (now ++ drop (7 - (7 - n)) (drop (7 - n) (replicate 7 0))) ≡ padded_id id
unfolding padded_id
written_last id now n e en h =
    let a : take (7 - n) (replicate 7 0) ≡ replicate (7 - n) 0 = take-replicate (7 - n) 7 0 (omega arith) in
    let b : drop (7 - (7 - n)) (drop (7 - n) (replicate 7 0)) ≡ [] =
    ap (drop (7 - (7 - n))) (drop-replicate (7 - n) 7 0) ∙ drop-replicate (7 - (7 - n)) (7 - (7 - n)) 0
    ∙ ap (λ k. replicate k 0) (nothing_left (7 - (7 - n))) in
    ap (λ xs. xs ++ (now ++ drop (7 - (7 - n)) (drop (7 - n) (replicate 7 0)))) a
    ∙ ap (λ xs. replicate (7 - n) 0 ++ (now ++ xs)) b
    ∙ ap (λ xs. replicate (7 - n) 0 ++ xs) (append-nil now ∙ e)
    ∙ ap (λ k. replicate (7 - k) 0 ++ id) en

-- the parts of a nonce where they are put
pub laid : (id padded last : List ℕ) (n : ℕ) → padded ≡ padded_id id → last ≡ five_bytes n → length padded ≡ 7
    → length id ∷ (take 7 (padded ++ 0 ∷ 0 ∷ 0 ∷ 0 ∷ 0 ∷ []) ++ (last ++ drop 5 (drop 7 (padded ++ 0 ∷ 0 ∷ 0 ∷ 0 ∷ 0 ∷ [])))) ≡ unmasked id n
unfolding unmasked
laid id padded last n ep el len =
    let zeros = 0 ∷ 0 ∷ 0 ∷ 0 ∷ 0 ∷ [] in
    ap (λ xs. length id ∷ (xs ++ (last ++ drop 5 (drop 7 (padded ++ zeros))))) (take_at padded zeros 7 len)
    ∙ ap (λ xs. length id ∷ (padded ++ (last ++ drop 5 xs))) (drop_at padded zeros 7 len)
    ∙ ap (λ xs. length id ∷ (padded ++ xs)) (append-nil last ∙ el)
    ∙ ap (λ xs. length id ∷ (xs ++ five_bytes n)) ep
