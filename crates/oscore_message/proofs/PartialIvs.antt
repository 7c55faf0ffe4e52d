-- Partial IVs: their bytes and their numbers.
use Rattle.std.proofs.Common.{◌≡◌, ℕ, zero, suc, ◌+◌, ◌-◌, ◌^◌, ◌<◌, ◌≤◌, true, false, List, [], ◌∷◌, ◌++◌, length, take, drop, get_or, replicate, refl, ap, sym, ◌∙◌, arith}
use Rattle.std.proofs.lemmas.List.{take-replicate, drop-replicate, append-nil, length-append, length-replicate, drop-append-le}
use Rattle.std.proofs.lemmas.Nat.{from_be_bytes-to_be_bytes_8, be_bytes_8}
use Rattle.std.specs.Int.{w64, to_be_bytes, from_be_bytes}
use Rattle.oscore_context.specs.Nonce.{five_bytes}
use Rattle.oscore_context.proofs.Nonces.{three_zeros, length-five_bytes}
use Rattle.oscore_message.specs.PartialIv.{shortest, partial_iv, number_of, has_leading_zero}

-- a leading zero doesn't count
pub shortest_rest : (bytes : List ℕ) → has_leading_zero bytes ≡ true → shortest (drop 1 bytes) ≡ shortest bytes
shortest_rest [] h = cc
shortest_rest (byte ∷ []) h = cc
shortest_rest (zero ∷ byte ∷ bytes) h = refl
shortest_rest (suc n ∷ byte ∷ bytes) h = cc

pub shortest_whole : (bytes : List ℕ) → has_leading_zero bytes ≡ false → shortest bytes ≡ bytes
shortest_whole [] h = refl
shortest_whole (byte ∷ []) h = refl
shortest_whole (zero ∷ byte ∷ bytes) h = cc
shortest_whole (suc n ∷ byte ∷ bytes) h = refl

pub leading_is_long : (bytes : List ℕ) → has_leading_zero bytes ≡ true → 2 ≤ length bytes
leading_is_long [] h = cc
leading_is_long (byte ∷ []) h = cc
leading_is_long (zero ∷ byte ∷ bytes) h = omega arith
leading_is_long (suc n ∷ byte ∷ bytes) h = cc

pub shortest_few : (bytes : List ℕ) → length (shortest bytes) ≤ length bytes
shortest_few [] = omega arith
shortest_few (byte ∷ []) = omega arith
shortest_few (zero ∷ byte ∷ bytes) = let h = shortest_few (byte ∷ bytes) in omega arith
shortest_few (suc n ∷ byte ∷ bytes) = omega arith

nothing_left : (k : ℕ) → k - k ≡ 0
nothing_left k = omega arith

-- bytes written over the last of w zeros
pub written_last : (w : ℕ) (bytes now : List ℕ) (n : ℕ) → now ≡ bytes → n ≡ length bytes → n ≤ w
    → take (w - n) (replicate w 0) ++ (now ++ drop (w - (w - n)) (drop (w - n) (replicate w 0)))
    ≡ replicate (w - length bytes) 0 ++ bytes
written_last w bytes now n e en h =
    let a : take (w - n) (replicate w 0) ≡ replicate (w - n) 0 = take-replicate (w - n) w 0 (omega arith) in
    let b : drop (w - (w - n)) (drop (w - n) (replicate w 0)) ≡ [] =
    ap (drop (w - (w - n))) (drop-replicate (w - n) w 0) ∙ drop-replicate (w - (w - n)) (w - (w - n)) 0
    ∙ ap (λ k. replicate k 0) (nothing_left (w - (w - n))) in
    ap (λ xs. xs ++ (now ++ drop (w - (w - n)) (drop (w - n) (replicate w 0)))) a
    ∙ ap (λ xs. replicate (w - n) 0 ++ (now ++ xs)) b
    ∙ ap (λ xs. replicate (w - n) 0 ++ xs) (append-nil now ∙ e)
    ∙ ap (λ k. replicate (w - k) 0 ++ bytes) en

-- ---- a number and its Partial IV

pub no_leading_zero : (bytes : List ℕ) → has_leading_zero (shortest bytes) ≡ false
no_leading_zero [] = refl
no_leading_zero (byte ∷ []) = refl
no_leading_zero (zero ∷ byte ∷ bytes) = no_leading_zero (byte ∷ bytes)
no_leading_zero (suc n ∷ byte ∷ bytes) = refl

pub shortest_some : (bytes : List ℕ) → 1 ≤ length bytes → 1 ≤ length (shortest bytes)
shortest_some [] h = absurd (omega arith)
shortest_some (byte ∷ []) h = omega arith
shortest_some (zero ∷ byte ∷ bytes) h = shortest_some (byte ∷ bytes) (omega arith)
shortest_some (suc n ∷ byte ∷ bytes) h = omega arith

pub length-partial_iv : (n : ℕ) → (1 ≤ length (partial_iv n)) × (length (partial_iv n) ≤ 5)
unfolding partial_iv
length-partial_iv n =
    let len = length-five_bytes n in
    let few = shortest_few (five_bytes n) in
    (shortest_some (five_bytes n) (omega (arith, len)), omega (arith, len, few))

pub partial_iv-no_zero : (n : ℕ) → has_leading_zero (partial_iv n) ≡ false
unfolding partial_iv
partial_iv-no_zero n = no_leading_zero (five_bytes n)

one_more : (k : ℕ) (bytes : List ℕ) → replicate k 0 ++ 0 ∷ bytes ≡ 0 ∷ (replicate k 0 ++ bytes)
one_more zero bytes = refl
one_more (suc k) bytes = ap (λ xs. 0 ∷ xs) (one_more k bytes)

-- leading zeros make no difference
padded_zero : (bytes : List ℕ) (k m : ℕ) → m ≡ suc k → replicate k 0 ++ 0 ∷ bytes ≡ replicate m 0 ++ bytes
padded_zero bytes k m e = one_more k bytes ∙ ap (λ n. replicate n 0 ++ bytes) (sym e)

number_of-shortest : (bytes : List ℕ) → length bytes ≤ 8 → number_of (shortest bytes) ≡ number_of bytes
unfolding number_of
number_of-shortest [] h = refl
number_of-shortest (byte ∷ []) h = refl
number_of-shortest (zero ∷ byte ∷ bytes) h =
    number_of-shortest (byte ∷ bytes) (omega arith)
    ∙ sym (ap (from_be_bytes w64) (padded_zero (byte ∷ bytes) (8 - length (0 ∷ byte ∷ bytes)) (8 - length (byte ∷ bytes)) (omega arith)))
number_of-shortest (suc n ∷ byte ∷ bytes) h = refl

number_of-five : (n : ℕ) → n < 2 ^ 40 → number_of (five_bytes n) ≡ n
unfolding number_of
number_of-five n h =
    ap (λ k. from_be_bytes w64 (replicate (8 - k) 0 ++ five_bytes n)) (length-five_bytes n)
    ∙ ap (from_be_bytes w64) (sym (three_zeros n h)) ∙ from_be_bytes-to_be_bytes_8 n (omega arith)

-- the number of a Partial IV
pub number_of-partial_iv : (n : ℕ) → n < 2 ^ 40 → number_of (partial_iv n) ≡ n
unfolding partial_iv
number_of-partial_iv n h =
    number_of-shortest (five_bytes n) (omega (arith, length-five_bytes n)) ∙ number_of-five n h

padded_bytes : (k : ℕ) (bytes : List ℕ) → ((i : ℕ) → get_or bytes i 0 < 256) → (i : ℕ) → get_or (replicate k 0 ++ bytes) i 0 < 256
padded_bytes zero bytes h i = h i
padded_bytes (suc k) bytes h zero = omega arith
padded_bytes (suc k) bytes h (suc i) = padded_bytes k bytes h i

pub number_small : (bytes : List ℕ) → ((i : ℕ) → get_or bytes i 0 < 256) → length bytes ≤ 5 → number_of bytes < 2 ^ 40
unfolding number_of
number_small [] h few = omega arith
number_small (a ∷ []) h few = let ha = h 0 in omega arith
number_small (a ∷ b ∷ []) h few = let ha = h 0 in let hb = h 1 in omega arith
number_small (a ∷ b ∷ c ∷ []) h few = let ha = h 0 in let hb = h 1 in let hc = h 2 in omega arith
number_small (a ∷ b ∷ c ∷ d ∷ []) h few = let ha = h 0 in let hb = h 1 in let hc = h 2 in let hd = h 3 in omega arith
number_small (a ∷ b ∷ c ∷ d ∷ e ∷ []) h few =
    let ha = h 0 in let hb = h 1 in let hc = h 2 in let hd = h 3 in let he = h 4 in omega arith
number_small (a ∷ b ∷ c ∷ d ∷ e ∷ f ∷ more) h few = absurd (omega arith)

shortest_zero : (bytes : List ℕ) → 1 ≤ length bytes → shortest (0 ∷ bytes) ≡ shortest bytes
shortest_zero [] h = absurd (omega arith)
shortest_zero (byte ∷ bytes) h = refl

shortest_padded : (k : ℕ) (bytes : List ℕ) → 1 ≤ length bytes → has_leading_zero bytes ≡ false → shortest (replicate k 0 ++ bytes) ≡ bytes
shortest_padded zero bytes some h = shortest_whole bytes h
shortest_padded (suc k) bytes some h =
    shortest_zero (replicate k 0 ++ bytes) (omega (arith, length-append (replicate k 0) bytes)) ∙ shortest_padded k bytes some h

zeros_length : (k : ℕ) → length {A = ℕ} (replicate k 0) ≡ k
zeros_length k = length-replicate k 0

five_of : (bytes : List ℕ) → ((i : ℕ) → get_or bytes i 0 < 256) → length bytes ≤ 5
    → five_bytes (number_of bytes) ≡ replicate (5 - length bytes) 0 ++ bytes
unfolding five_bytes number_of
five_of bytes h few =
    let padded = replicate (8 - length bytes) 0 ++ bytes in
    let len : length padded ≡ 8 = length-append (replicate (8 - length bytes) 0) bytes ∙ ap (λ k. k + length bytes) (zeros_length (8 - length bytes)) ∙ omega arith in
    let all : to_be_bytes w64 (from_be_bytes w64 padded) ≡ padded =
    be_bytes_8 padded _ len (padded_bytes (8 - length bytes) bytes h) refl in
    ap (drop 3) all
    ∙ drop-append-le 3 (replicate (8 - length bytes) 0) bytes (omega (arith, zeros_length (8 - length bytes)))
    ∙ ap (λ xs. xs ++ bytes) (drop-replicate 3 (8 - length bytes) 0)
    ∙ ap (λ k. replicate k 0 ++ bytes) (omega arith)

-- the Partial IV of the number that bytes say
pub partial_iv-number_of : (bytes : List ℕ) → ((i : ℕ) → get_or bytes i 0 < 256) → 1 ≤ length bytes → length bytes ≤ 5
    → has_leading_zero bytes ≡ false → partial_iv (number_of bytes) ≡ bytes
unfolding partial_iv
partial_iv-number_of bytes h some few lead =
    ap shortest (five_of bytes h few) ∙ shortest_padded (5 - length bytes) bytes some lead
