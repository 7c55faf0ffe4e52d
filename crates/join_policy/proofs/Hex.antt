-- Hex text of a network.
use Rattle.std.proofs.Common.{◌≡◌, ℕ, ◌/◌, ◌%◌, ◌<◌, ◌≤◌, ◌⊎◌, inl, inr, List, length, Some, None, Result, Ok, Err, refl, sym, ◌∙◌, ap, arith}
use Rattle.std.specs.Prelude.{MatchResult}
use Rattle.std.specs.Result.{result_ok}
use Rattle.std.proofs.lemmas.Bool.{cases_eq}
use Rattle.std.proofs.lemmas.Bool.Decides.{nat_tests}
use Rattle.hex.specs.declared.error.FromHexError.{FromHexError}
use Rattle.hex.specs.Hex.{decode_of, decode_sized}
use Rattle.hex.proofs.HexLemmas.{decode_of-odd, decode_of-ok, decode_sized-odd, decode_sized-twice}
use Rattle.join_policy.specs.Values.{if_network, network_from, ◌>>=◌}

-- what decodes has half as many bytes as digits
half : (text bytes : List ℕ) → decode_of text ≡ Ok bytes → length bytes ≡ length text / 2
half text bytes h = let len = (decode_of-ok text bytes h).2 in omega (arith, len)

refused : (r : Result (List ℕ) FromHexError) → ((bytes : List ℕ) → r ≡ Ok bytes → (length bytes ≡ 0) ⊎ (16 < length bytes)) → (result_ok r >>= if_network) ≡ None
refused (Err e) h = refl
refused (Ok bytes) h = let bad = h bytes refl in grind (arith, nat_tests)

taken : (r : Result (List ℕ) FromHexError) → ((bytes : List ℕ) → r ≡ Ok bytes → (1 ≤ length bytes) × (length bytes ≤ 16)) → (result_ok r >>= if_network) ≡ result_ok r
taken (Err e) h = refl
taken (Ok bytes) h = let good = h bytes refl in grind (arith, nat_tests)

-- too short or too long a text names no network
pub network_none : (text : List ℕ) → (length text / 2 ≡ 0) ⊎ (16 < length text / 2) → network_from text ≡ None
network_none text bad = refused (decode_of text) (λ bytes h. let len = half text bytes h in elim bad [
  | inl zero ↦ inl (omega (arith, len, zero))
  | inr long ↦ inr (omega (arith, len, long))
])

-- another text names what its digits are
pub network_sized : (text : List ℕ) (size : ℕ) → size ≡ length text / 2 → 1 ≤ size → size ≤ 16 → network_from text ≡ result_ok (decode_sized text size)
network_sized text size is low high =
    taken (decode_of text) (λ bytes h. let len = half text bytes h in (omega (arith, len), omega (arith, len)))
    ∙ elim (cases_eq (length text % 2) 1) [
      | inl odd ↦ rw (decode_of-odd text odd, decode_sized-odd text size odd) refl
      | inr even ↦ rw (decode_sized-twice text size (omega arith)) refl
    ]

-- what a call of `decode_to_slice` says
pub decoded : (d : Result (List ℕ) FromHexError) (r : Result (Unit {0}) FromHexError) (out : List ℕ)
    → MatchResult d (λ bytes. (r ≡ Ok tt) × (out ≡ bytes)) (λ e. r ≡ Err e) → r ≡ Ok tt → result_ok d ≡ Some out
decoded (Ok bytes) r out h e = ap Some (sym h.1)
decoded (Err f) r out h e = cc (sym h ∙ e)

pub not_decoded : (d : Result (List ℕ) FromHexError) (r : Result (Unit {0}) FromHexError) (out : List ℕ) (fault : FromHexError)
    → MatchResult d (λ bytes. (r ≡ Ok tt) × (out ≡ bytes)) (λ e. r ≡ Err e) → r ≡ Err fault → result_ok d ≡ None
not_decoded (Ok bytes) r out fault h e = cc (sym h.0 ∙ e)
not_decoded (Err f) r out fault h e = refl
