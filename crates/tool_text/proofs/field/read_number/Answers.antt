use Rattle.std.proofs.Common.{◌≡◌, ℕ, ◌^◌, ◌<◌, true, length, take, get_or, ◌≤◌, List, Bool, false, ltb, IfSome, IfNone, inl, inr, refl, sym, ◌∙◌, ap, subst, decimal, arith}
use Rattle.std.specs.Bool.{then_some}
use Rattle.std.specs.Str.Parse.{AllDigits, digits_value}
use Rattle.std.proofs.lemmas.Bool.Decides.{nat_tests}
use Rattle.std.proofs.lemmas.Int.Digits.{digits_more, digits_value_more}
use Rattle.std.proofs.lemmas.List.{length-take, take_all}
use Rattle.std.proofs.lemmas.Str.{digit_value_digit}
use Rattle.std.proofs.lemmas.Str.Parse.{digit_at, digits_value_short, digit_from_value}
use Rattle.tool_text.proofs.Fields.{own, IsNumberText-decimal, decimal-value}
use Rattle.tool_text.proofs.field.read_number.Goals as goal
use Rattle.tool_text.proofs.field.read_number.Goals.{then-is_empty-via-then-is_empty, then-is_empty-via-else-is_empty+then-digits-gt-MOST_DIGITS}

pub returns-then-is_empty-clause-none : goal.returns-then-is_empty-clause-none
returns-then-is_empty-clause-none c = λ number small e.
    let text = IsNumberText-decimal c.args.digits.now number small e in
    elim c.then-is_empty.branch [
      | then-is_empty-via-then-is_empty w ↦ grind (arith, nat_tests)
      | then-is_empty-via-else-is_empty+then-digits-gt-MOST_DIGITS w ↦ omega arith
    ]

pub returns-then-digits-gt1-clause-none : goal.returns-then-digits-gt1-clause-none
returns-then-digits-gt1-clause-none c = λ number small e.
    let text = IsNumberText-decimal c.args.digits.now number small e in
    omega (arith, text.no_zeros c.if-digits-eq48.true)

pub returns-then-not-is_ascii_digit-clause-none : goal.returns-then-not-is_ascii_digit-clause-none
returns-then-not-is_ascii_digit-clause-none c = λ number small e.
    let text = IsNumberText-decimal c.args.digits.now number small e in
    let digit = digit_at c.args.digits.now c.loop-digit.digit-index text.digits_only (omega arith) in
    grind (arith, nat_tests)

pub overflow_mul-number : goal.overflow_mul-number
overflow_mul-number c =
    let digits = c.args.digits.now in
    let i = c.loop-digit.digit-index in
    let fits = digits_value_short own (take i digits) 12 c.loop-digit.invariant.digits_only (omega (arith, length-take i digits)) in
    omega arith

pub overflow_add-number : goal.overflow_add-number
overflow_add-number c =
    let digits = c.args.digits.now in
    let i = c.loop-digit.digit-index in
    let fits = digits_value_short own (take i digits) 12 c.loop-digit.invariant.digits_only (omega (arith, length-take i digits)) in
    omega arith

pub loop-digit-preserved : goal.loop-digit-preserved
loop-digit-preserved c =
    let digits = c.args.digits.now in
    let i = c.loop-digit.digit-index in
    let small = c.if-not-is_ascii_digit.ensures.bound in
    let range = digit_from_value (get_or digits i 0) small in
    let value = digit_value_digit (get_or digits i 0) range in
    let more = digits_value_more 10 digits i (omega arith) in
    record {
      digits_only = digits_more 10 digits i (omega arith) c.loop-digit.invariant.digits_only small;
      value = omega (arith, c.loop-digit.invariant.value, range.0);
    }

-- the whole of the digits was read
whole : (digits : List ℕ) (i number : ℕ) → length digits ≤ i → AllDigits 10 (take i digits)
    → number ≡ digits_value 10 (take i digits) → AllDigits 10 digits × (number ≡ digits_value 10 digits)
whole digits i number all only value =
    let e = take_all i digits all in
    (subst (λ (x : List ℕ). AllDigits 10 x) e only, value ∙ ap (λ (x : List ℕ). digits_value 10 x) e)

-- a value that is there where its test passed
if_some : (P : ℕ → Type 0) (b : Bool) (n : ℕ) → (b ≡ true → P n) → IfSome (then_some b n) P
if_some P true n h = h refl
if_some P false n h = tt

-- a value that isn't there where its test failed
if_none : (P : Type 0) (b : Bool) (n : ℕ) → (b ≡ false → P) → IfNone (then_some b n) P
if_none P true n h = tt
if_none P false n h = h refl

pub returns-clause-found : goal.returns-clause-found
returns-clause-found c =
    let digits = c.args.digits.now in
    let number = c.loop-digit.number in
    let all = whole digits c.loop-digit.digit-index number c.loop-digit-test.false c.loop-digit.invariant.digits_only c.loop-digit.invariant.value in
    let some : 0 < length digits = grind (arith, nat_tests) in
    let no_zeros : get_or digits 0 0 ≡ 48 → length digits ≡ 1 = λ zero.
    elim c.else-digits-eq48.either [ inl w ↦ omega arith | inr other ↦ absurd (other zero) ] in
    let P : ℕ → Type 0 = λ n. digits ≡ decimal n in
    rw c.then_some.ensures (if_some P (ltb number (2 ^ 40)) number (λ passed.
    let small : number < 2 ^ 40 = grind (arith, nat_tests) in
    decimal-value digits some no_zeros all.0 (omega (arith, all.1)) ∙ ap decimal (sym all.1)))

pub returns-clause-none : goal.returns-clause-none
returns-clause-none c =
    let digits = c.args.digits.now in
    let number = c.loop-digit.number in
    let all = whole digits c.loop-digit.digit-index number c.loop-digit-test.false c.loop-digit.invariant.digits_only c.loop-digit.invariant.value in
    rw c.then_some.ensures (if_none _ (ltb number (2 ^ 40)) number (λ failed n small e.
    let text = IsNumberText-decimal digits n small e in
    let large : 2 ^ 40 ≤ number = grind (arith, nat_tests) in
    omega (arith, all.1, text.value)))
