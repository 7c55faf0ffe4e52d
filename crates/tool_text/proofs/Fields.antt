-- Numbers and identifiers as fields of a line.
use Rattle.std.proofs.Common.{◌≡◌, ◌≢◌, ℕ, ◌^◌, ◌<◌, ◌≤◌, true, List, length, get_or, decimal, sym, ap, ◌∙◌, subst, arith, inl, inr, lit<}
use Rattle.std.specs.Str.Parse.{AllDigits, digits_value}
use Rattle.std.proofs.lemmas.Str.Parse.{IsNumeralModel, numerals_by_value, tells_digits, not_in_digits}
use Rattle.std.proofs.lemmas.Fmt.{digits_decimal, digits_value-decimal, decimal_nonempty, length-decimal-le, first_decimal, decimal-digits_value, decimal_digit}
use Rattle.std.proofs.lemmas.List.Elements.{All-from_get_or, All-weaker}
use Rattle.std.proofs.lemmas.Bool.{cases_eq}
use Rattle.edge_traits.specs.declared.names.PledgeId.{PledgeId}
use Rattle.hex.specs.Hex.{is_hex_digit}
use Rattle.hex.proofs.HexLemmas.{decode_of-ok}
use Rattle.tool_text.specs.Line.{SpellsId}
use Rattle.tool_text.specs.Lines.{Lacks}

-- std's own words for digits and their value
pub own : IsNumeralModel (AllDigits 10) (digits_value 10)
own = numerals_by_value (AllDigits 10) tells_digits

-- a number has no space
pub Lacks-decimal : (n : ℕ) → n < 2 ^ 64 → Lacks (decimal n) 32
Lacks-decimal n small =
    All-from_get_or (λ b. b ≢ 32) (decimal n) 0
    (λ i h. not_in_digits own (decimal n) 32 (digits_decimal own n small) (λ r. omega arith) i h)

-- hex digits have no space
pub Lacks-id : (digits : List ℕ) (id : PledgeId) → SpellsId digits id → Lacks digits 32
Lacks-id digits id spells =
    All-weaker (λ c. is_hex_digit c ≡ true) (λ c. c ≢ 32) (λ c digit space. let no : is_hex_digit 32 ≡ true = subst (λ (x : ℕ). is_hex_digit x ≡ true) space digit in cc no)
    digits (decode_of-ok digits id.0 spells.decoded).1

-- how a number is written
pub record IsNumberText (digits : List ℕ) (number : ℕ) : Type 0 where
  pub some : 0 < length digits
  pub short : length digits ≤ 13
  pub no_zeros : get_or digits 0 0 ≡ 48 → length digits ≡ 1
  pub digits_only : AllDigits 10 digits
  pub value : digits_value 10 digits ≡ number

-- a number below 2^40 is written so
pub IsNumberText-decimal : (digits : List ℕ) (number : ℕ) → number < 2 ^ 40 → digits ≡ decimal number → IsNumberText digits number
IsNumberText-decimal digits number small e = rw e (record {
  some = decimal_nonempty number (omega arith);
  short = length-decimal-le 13 number (omega arith) (omega arith) (omega arith);
  no_zeros = λ zero. elim (cases_eq number 0) [
    | inl is ↦ ap (λ n. length (decimal n)) is ∙ ap length (decimal_digit 0 (lit< tt))
    | inr other ↦ absurd (omega (arith, first_decimal number (omega arith) (omega arith)))
  ];
  digits_only = digits_decimal own number (omega arith);
  value = digits_value-decimal own number (omega arith);
})

-- what is written so is the number's text
pub decimal-value : (digits : List ℕ) → 0 < length digits → (get_or digits 0 0 ≡ 48 → length digits ≡ 1)
    → AllDigits 10 digits → digits_value 10 digits < 2 ^ 40 → digits ≡ decimal (digits_value 10 digits)
decimal-value digits some no_zeros digits_only small =
    sym (decimal-digits_value own digits digits_only some no_zeros (omega arith))
