-- The grammar of the option's value: its spelling, its first fault, and reading, which is the other two.
use Rattle.std.proofs.Common.{◌≡◌, ◌≢◌, ℕ, zero, suc, ◌+◌, ◌*◌, ◌/◌, ◌%◌, ◌^◌, ◌<◌, ◌≤◌, Bool, true, false, not, ◌&&◌, ◌||◌, cond, nat_lt, ◌==◌, List, [], ◌∷◌, ◌++◌, length, take, drop, get_or, Option, None, Some, Result, Ok, Err, IfSome, refl, ap, sym, subst, ◌∙◌, arith, ◌⊎◌, inl, inr}
use Rattle.std.proofs.lemmas.List.{take_at, drop_at, append_assoc, length-append, length-take-le, take-append-drop}
use Rattle.std.proofs.lemmas.Bool.{ltb-false, le-ltb}
use Rattle.std.proofs.lemmas.Bool.Decides.{nat_tests}
use Rattle.oscore_message.specs.PartialIv.{partial_iv, number_of, has_leading_zero}
use Rattle.oscore_message.specs.declared.option_value.OptionValue.{OptionValue}
use Rattle.oscore_message.specs.declared.option_value.BadOption.{BadOption}
use Rattle.std.specs.Prelude.{IfOk, MatchResult}
use Rattle.oscore_message.specs.OptionValue.{Fields, fields_of, number_field, context_field, kid_field, flag, flags_of, option_text, Fits, IsOptionValue, is_empty, has_bad_flags, has_bad_number, has_cut_context, has_context, has_kid, after_context, first_fault}
use Rattle.oscore_message.specs.Reading.{number_in, context_in, kid_in, fields_in, option_with, option_at, read_as}
use Rattle.oscore_message.proofs.PartialIvs.{length-partial_iv, partial_iv-no_zero, number_of-partial_iv, partial_iv-number_of, number_small}

-- ---- tests

or_false : (a b : Bool) → (a || b) ≡ false → (a ≡ false) × (b ≡ false)
or_false true b e = cc
or_false false b e = (refl, e)

false_or : (a b : Bool) → a ≡ false → b ≡ false → (a || b) ≡ false
false_or true b ea eb = cc
false_or false b ea eb = eb

and_false : (a b : Bool) → a ≡ false → (a && b) ≡ false
and_false true b e = cc
and_false false b e = refl

not_less : (a b : ℕ) → nat_lt a b ≡ false → b ≤ a
not_less a b e = ltb-false a b e

less_not : (a b : ℕ) → b ≤ a → nat_lt a b ≡ false
less_not a b h = le-ltb a b h

-- a number that isn't 0
pub not_zero : (n : ℕ) → n ≢ 0 → (n == 0) ≡ false
not_zero n h = grind (arith, nat_tests)

pick : (b : Bool) (x : ℕ) (r : Option ℕ) → cond b (Some x) r ≡ None → (b ≡ false) × (r ≡ None)
pick true x r e = cc
pick false x r e = (refl, e)

pass : (b : Bool) (x : ℕ) (r : Option ℕ) → b ≡ false → r ≡ None → cond b (Some x) r ≡ None
pass true x r e f = cc
pass false x r e f = f

-- ---- a value without a fault

record IsWhole (flags : ℕ) (rest : List ℕ) : Type 0 where
  pub flags_are : has_bad_flags flags rest ≡ false
  pub number_is : has_bad_number (flags % 8) rest ≡ false
  pub context_is : (has_context flags && has_cut_context (drop (flags % 8) rest)) ≡ false
  pub left_is : (not (has_kid flags) && not (is_empty (after_context (has_context flags) (drop (flags % 8) rest)))) ≡ false

whole_from : (flags : ℕ) (rest : List ℕ) → first_fault (flags ∷ rest) ≡ None → IsWhole flags rest
unfolding first_fault
whole_from flags rest e =
    let a = pick (has_bad_flags flags rest) 0 _ e in
    let b = pick (has_bad_number (flags % 8) rest) 1 _ a.1 in
    let d = pick (has_context flags && has_cut_context (drop (flags % 8) rest)) (1 + flags % 8) _ b.1 in
    let f = pick (not (has_kid flags) && not (is_empty (after_context (has_context flags) (drop (flags % 8) rest)))) _ None d.1 in
    record { flags_are = a.0; number_is = b.0; context_is = d.0; left_is = f.0 }

none_from : (flags : ℕ) (rest : List ℕ) → IsWhole flags rest → first_fault (flags ∷ rest) ≡ None
unfolding first_fault
none_from flags rest w =
    pass (has_bad_flags flags rest) 0 _ w.flags_are
    (pass (has_bad_number (flags % 8) rest) 1 _ w.number_is
    (pass (has_context flags && has_cut_context (drop (flags % 8) rest)) (1 + flags % 8) _ w.context_is
    (pass (not (has_kid flags) && not (is_empty (after_context (has_context flags) (drop (flags % 8) rest)))) _ None w.left_is refl)))

-- ---- what is read is spelled

take_bytes : (n : ℕ) (xs : List ℕ) → ((i : ℕ) → get_or xs i 0 < 256) → (i : ℕ) → get_or (take n xs) i 0 < 256
take_bytes zero xs h i = omega arith
take_bytes (suc n) [] h i = omega arith
take_bytes (suc n) (x ∷ xs) h zero = h 0
take_bytes (suc n) (x ∷ xs) h (suc i) = take_bytes n xs (λ k. h (suc k)) i

drop_bytes : (n : ℕ) (xs : List ℕ) → ((i : ℕ) → get_or xs i 0 < 256) → (i : ℕ) → get_or (drop n xs) i 0 < 256
drop_bytes zero xs h i = h i
drop_bytes (suc n) [] h i = omega arith
drop_bytes (suc n) (x ∷ xs) h i = drop_bytes n xs (λ k. h (suc k)) i

pub some_not : (n : ℕ) → 1 ≤ n → n ≢ 0
some_not n h e = absurd (omega arith)

number_is : (n : ℕ) (rest : List ℕ) → n ≢ 0 → number_in n rest ≡ Some (number_of (take n rest))
number_is n rest h = ap (λ b. cond b None (Some (number_of (take n rest)))) (not_zero n h)

number_spelled : (n : ℕ) (rest : List ℕ) → ((i : ℕ) → get_or rest i 0 < 256) → n ≤ 5 → n ≤ length rest
    → has_leading_zero (take n rest) ≡ false → number_field (number_in n rest) ≡ take n rest
number_spelled zero rest h few len lead = refl
number_spelled (suc m) rest h few len lead =
    let is = length-take-le (suc m) rest len in
    ap number_field (number_is (suc m) rest (some_not (suc m) (omega arith)))
    ∙ partial_iv-number_of (take (suc m) rest) (take_bytes (suc m) rest h) (omega (arith, is)) (omega (arith, is)) lead

number_fits : (n : ℕ) (rest : List ℕ) → ((i : ℕ) → get_or rest i 0 < 256) → n ≤ 5 → n ≤ length rest
    → IfSome (number_in n rest) (λ x. x < 2 ^ 40)
number_fits zero rest h few len = tt
number_fits (suc m) rest h few len =
    let P : Option ℕ → Type 0 = λ x. IfSome x (λ n. n < 2 ^ 40) in
    subst P (sym (number_is (suc m) rest (some_not (suc m) (omega arith))))
    (number_small (take (suc m) rest) (take_bytes (suc m) rest h) (omega (arith, length-take-le (suc m) rest len)))

context_spelled : (h : Bool) (bytes : List ℕ) → (h && has_cut_context bytes) ≡ false
    → context_field (context_in h bytes) ++ after_context h bytes ≡ bytes
context_spelled false bytes e = refl
context_spelled true [] e = cc
context_spelled true (len ∷ rest) e =
    ap (λ n. n ∷ (take len rest ++ drop len rest)) (length-take-le len rest (not_less (length rest) len e))
    ∙ ap (λ xs. len ∷ xs) (take-append-drop len rest)

context_fits : (h : Bool) (bytes : List ℕ) → ((i : ℕ) → get_or bytes i 0 < 256) → (h && has_cut_context bytes) ≡ false
    → IfSome (context_in h bytes) (λ c. length c < 256)
context_fits false bytes b e = tt
context_fits true [] b e = cc
context_fits true (len ∷ rest) b e =
    let first = b 0 in
    let is = length-take-le len rest (not_less (length rest) len e) in
    omega (arith, is)

kid_spelled : (k : Bool) (left : List ℕ) → (not k && not (is_empty left)) ≡ false → kid_field (kid_in k left) ≡ left
kid_spelled true left e = refl
kid_spelled false [] e = refl
kid_spelled false (x ∷ left) e = cc

context_flag : (m : ℕ) (bytes : List ℕ) → m < 2 → ((m == 1) && has_cut_context bytes) ≡ false → flag (context_in (m == 1) bytes) ≡ m
context_flag zero bytes h e = refl
context_flag (suc zero) [] h e = cc
context_flag (suc zero) (len ∷ rest) h e = refl
context_flag (suc (suc m)) bytes h e = absurd (omega arith)

kid_flag : (m : ℕ) (left : List ℕ) → m < 2 → flag (kid_in (m == 1) left) ≡ m
kid_flag zero left h = refl
kid_flag (suc zero) left h = refl
kid_flag (suc (suc m)) left h = absurd (omega arith)

zero_flags : (rest : List ℕ) → IsWhole 0 rest → ⊥
zero_flags [] w = let e = w.flags_are in cc
zero_flags (x ∷ rest) w = let e = w.left_is in cc

-- the fields of these flags
pub text_of : (v : Fields) (flags : ℕ) (rest : List ℕ) → flags_of v ≡ flags → flags ≢ 0
    → number_field v.number ++ (context_field v.context ++ kid_field v.kid) ≡ rest → option_text v ≡ flags ∷ rest
unfolding option_text
text_of v flags rest ef some e =
    ap (λ b. cond b [] (flags_of v ∷ number_field v.number ++ context_field v.context ++ kid_field v.kid)) (ap (λ n. n == 0) ef ∙ not_zero flags some)
    ∙ ap (λ xs. flags_of v ∷ xs) (append_assoc (number_field v.number) (context_field v.context) (kid_field v.kid) ∙ e)
    ∙ ap (λ n. n ∷ rest) ef

read_whole : (flags : ℕ) (rest : List ℕ) → flags < 256 → ((i : ℕ) → get_or rest i 0 < 256) → IsWhole flags rest
    → IsOptionValue (flags ∷ rest) (fields_in (flags ∷ rest))
unfolding fields_in
read_whole flags rest byte bytes w =
    let after = drop (flags % 8) rest in
    let left = after_context (has_context flags) after in
    let a = or_false (nat_lt 31 flags) _ w.flags_are in
    let b = or_false (nat_lt 5 (flags % 8)) _ a.1 in
    let small = not_less 31 flags a.0 in
    let few = not_less 5 (flags % 8) b.0 in
    let d = or_false (nat_lt (length rest) (flags % 8)) _ w.number_is in
    let within = not_less (length rest) (flags % 8) d.0 in
    let en = number_spelled (flags % 8) rest bytes few within d.1 in
    let ec = context_spelled (has_context flags) after w.context_is in
    let ek = kid_spelled (has_kid flags) left w.left_is in
    let fc = context_flag (flags / 16 % 2) after (omega arith) w.context_is in
    let fk = kid_flag (flags / 8 % 2) left (omega arith) in
    let len : length (number_field (number_in (flags % 8) rest)) ≡ flags % 8 = ap length en ∙ length-take-le (flags % 8) rest within in
    let v = fields_in (flags ∷ rest) in
    let ef : flags_of v ≡ flags = omega (arith, fc, fk, len) in
    let some : flags ≢ 0 = λ z. zero_flags rest (let P : ℕ → Type 0 = λ n. IsWhole n rest in subst P z w) in
    let all : number_field v.number ++ (context_field v.context ++ kid_field v.kid) ≡ rest =
    ap (λ xs. number_field v.number ++ (context_field v.context ++ xs)) ek
    ∙ ap (λ xs. number_field v.number ++ xs) ec ∙ ap (λ xs. xs ++ after) en ∙ take-append-drop (flags % 8) rest in
    record {
      fits = record {
        number = number_fits (flags % 8) rest bytes few within;
        context = context_fits (has_context flags) after (drop_bytes (flags % 8) rest bytes) w.context_is;
      };
      spelled = sym (text_of v flags rest ef some all);
    }

nothing : IsOptionValue [] (fields_in [])
unfolding fields_in option_text
nothing = record { fits = record { number = tt; context = tt }; spelled = refl }

spelled_at : (bytes : List ℕ) → ((i : ℕ) → get_or bytes i 0 < 256) → first_fault bytes ≡ None → IsOptionValue bytes (fields_in bytes)
spelled_at [] b e = nothing
spelled_at (flags ∷ rest) b e = read_whole flags rest (b 0) (λ i. b (suc i)) (whole_from flags rest e)

at_with : (bytes : List ℕ) (r : Result Fields ℕ) → option_at bytes ≡ r → option_with bytes (first_fault bytes) ≡ r
unfolding option_at
at_with bytes r e = e

ok_parts : (bytes : List ℕ) (v : Fields) (f : Option ℕ) → first_fault bytes ≡ f → option_with bytes f ≡ Ok v
    → (first_fault bytes ≡ None) × (fields_in bytes ≡ v)
ok_parts bytes v None h e = (h, cc)
ok_parts bytes v (Some at) h e = cc

-- a value without a fault says what is read of it
pub read_spelled : (bytes : List ℕ) (v : Fields) → ((i : ℕ) → get_or bytes i 0 < 256) → option_at bytes ≡ Ok v → IsOptionValue bytes v
read_spelled bytes v b e =
    let x = ok_parts bytes v (first_fault bytes) refl (at_with bytes (Ok v) e) in
    let P : Fields → Type 0 = λ f. IsOptionValue bytes f in
    subst P x.1 (spelled_at bytes b x.0)

abbrev done : Fields → Result Fields ℕ
done v = Ok v

err_parts : (bytes : List ℕ) (at : ℕ) (f : Option ℕ) → first_fault bytes ≡ f → option_with bytes f ≡ Err at → first_fault bytes ≡ Some at
err_parts bytes at None h e = cc
err_parts bytes at (Some other) h e = cc

-- the fault of a value is its first
pub fault_read : (bytes : List ℕ) (at : ℕ) → option_at bytes ≡ Err at → first_fault bytes ≡ Some at
fault_read bytes at e = err_parts bytes at (first_fault bytes) refl (at_with bytes (Err at) e)

pub none_read : (bytes : List ℕ) (v : Fields) → option_at bytes ≡ Ok v → first_fault bytes ≡ None
none_read bytes v e = (ok_parts bytes v (first_fault bytes) refl (at_with bytes (Ok v) e)).0

at_none : (bytes : List ℕ) (v : Fields) → first_fault bytes ≡ None → fields_in bytes ≡ v → option_at bytes ≡ Ok v
unfolding option_at
at_none bytes v e f = ap (option_with bytes) e ∙ ap Ok f

ok_is : (v w : Fields) → done v ≡ done w → v ≡ w
ok_is v w e = cc

remade : (v : Fields) (number : Option ℕ) (context kid : Option (List ℕ)) → number ≡ v.number → context ≡ v.context → kid ≡ v.kid
    → record { number = number; context = context; kid = kid } ≡ v
remade v number context kid en ec ek =
    let made : Option ℕ → Option (List ℕ) → Option (List ℕ) → Fields = λ n c k. record { number = n; context = c; kid = k } in
    ap (λ n. made n context kid) en ∙ ap (λ c. made v.number c kid) ec ∙ ap (λ k. made v.number v.context k) ek

-- ---- what is spelled is read

-- the flags of parts: h and k are bits, and p is the length of the Partial IV
bits : (h k p : ℕ) → h < 2 → k < 2 → p ≤ 5
    → ((16 * h + 8 * k + p) % 8 ≡ p) × ((16 * h + 8 * k + p) / 16 % 2 ≡ h) × ((16 * h + 8 * k + p) / 8 % 2 ≡ k)
bits h k p hh hk hp = (omega arith, omega arith, omega arith)

flag_below : (x : Option (List ℕ)) → flag x < 2
flag_below None = omega arith
flag_below (Some bytes) = omega arith

number_few : (x : Option ℕ) → length (number_field x) ≤ 5
number_few None = omega arith
number_few (Some n) = let h = length-partial_iv n in h.1

number_lead : (x : Option ℕ) → has_leading_zero (number_field x) ≡ false
number_lead None = refl
number_lead (Some n) = partial_iv-no_zero n

number_again : (x : Option ℕ) (rest : List ℕ) → IfSome x (λ n. n < 2 ^ 40)
    → number_in (length (number_field x)) (number_field x ++ rest) ≡ x
number_again None rest fits = refl
number_again (Some n) rest fits =
    let len = length-partial_iv n in
    ap (λ b. cond b None (Some (number_of (take (length (partial_iv n)) (partial_iv n ++ rest))))) (not_zero (length (partial_iv n)) (some_not (length (partial_iv n)) len.0))
    ∙ ap (λ xs. Some (number_of xs)) (take_at (partial_iv n) rest (length (partial_iv n)) refl)
    ∙ ap Some (number_of-partial_iv n fits)

cut_again : (x : Option (List ℕ)) (rest : List ℕ) → ((flag x == 1) && has_cut_context (context_field x ++ rest)) ≡ false
cut_again None rest = refl
cut_again (Some c) rest = less_not (length (c ++ rest)) (length c) (omega (arith, length-append c rest))

context_again : (x : Option (List ℕ)) (rest : List ℕ) → context_in (flag x == 1) (context_field x ++ rest) ≡ x
context_again None rest = refl
context_again (Some c) rest = ap Some (take_at c rest (length c) refl)

after_again : (x : Option (List ℕ)) (rest : List ℕ) → after_context (flag x == 1) (context_field x ++ rest) ≡ rest
after_again None rest = refl
after_again (Some c) rest = drop_at c rest (length c) refl

kid_again : (x : Option (List ℕ)) → kid_in (flag x == 1) (kid_field x) ≡ x
kid_again None = refl
kid_again (Some k) = refl

left_again : (x : Option (List ℕ)) → (not (flag x == 1) && not (is_empty (kid_field x))) ≡ false
left_again None = refl
left_again (Some k) = refl

-- the fields by their parts
fields_by : (flags n : ℕ) (rest after left : List ℕ) (h k : Bool) → flags % 8 ≡ n → has_context flags ≡ h → has_kid flags ≡ k
    → drop n rest ≡ after → after_context h after ≡ left
    → fields_in (flags ∷ rest) ≡ record { number = number_in n rest; context = context_in h after; kid = kid_in k left }
unfolding fields_in
fields_by flags n rest after left h k en eh ek ea el = cc

whole_by : (flags n : ℕ) (rest after left : List ℕ) (h k : Bool) → flags % 8 ≡ n → has_context flags ≡ h → has_kid flags ≡ k
    → drop n rest ≡ after → after_context h after ≡ left → has_bad_flags flags rest ≡ false → has_bad_number n rest ≡ false
    → (h && has_cut_context after) ≡ false → (not k && not (is_empty left)) ≡ false → IsWhole flags rest
whole_by flags n rest after left h k en eh ek ea el f1 f2 f3 f4 = record {
  flags_are = f1;
  number_is = ap (λ m. has_bad_number m rest) en ∙ f2;
  context_is = ap (λ b. b && has_cut_context (drop (flags % 8) rest)) eh ∙ ap (λ m. h && has_cut_context (drop m rest)) en
      ∙ ap (λ xs. h && has_cut_context xs) ea ∙ f3;
  left_is = ap (λ b. not b && not (is_empty (after_context (has_context flags) (drop (flags % 8) rest)))) ek
      ∙ ap (λ b. not k && not (is_empty (after_context b (drop (flags % 8) rest)))) eh
      ∙ ap (λ m. not k && not (is_empty (after_context h (drop m rest)))) en
      ∙ ap (λ xs. not k && not (is_empty (after_context h xs))) ea
      ∙ ap (λ xs. not k && not (is_empty xs)) el ∙ f4;
}

some_flags : (v : Fields) → flags_of v ≢ 0 → Fits v → option_at (option_text v) ≡ Ok v
some_flags v some fits =
    let p = length (number_field v.number) in
    let back = context_field v.context ++ kid_field v.kid in
    let rest = number_field v.number ++ back in
    let flags = flags_of v in
    let few = number_few v.number in
    let hc = flag_below v.context in
    let hk = flag_below v.kid in
    let b = bits (flag v.context) (flag v.kid) p hc hk few in
    let eh : has_context flags ≡ (flag v.context == 1) = ap (λ m. m == 1) b.1 in
    let ek : has_kid flags ≡ (flag v.kid == 1) = ap (λ m. m == 1) b.2 in
    let ea = drop_at (number_field v.number) back p refl in
    let el = after_again v.context (kid_field v.kid) in
    let small : flags ≤ 31 = omega (arith, few, hc, hk) in
    let low : flags % 8 ≤ 5 = omega (arith, b.0, few) in
    let f1 : has_bad_flags flags rest ≡ false =
    false_or (nat_lt 31 flags) _ (less_not 31 flags small) (false_or (nat_lt 5 (flags % 8)) _ (less_not 5 (flags % 8) low)
    (and_false (flags == 0) (is_empty rest) (not_zero flags some))) in
    let f2 : has_bad_number p rest ≡ false =
    false_or (nat_lt (length rest) p) _ (less_not (length rest) p (omega (arith, length-append (number_field v.number) back)))
    (ap has_leading_zero (take_at (number_field v.number) back p refl) ∙ number_lead v.number) in
    let w = whole_by flags p rest back (kid_field v.kid) (flag v.context == 1) (flag v.kid == 1) b.0 eh ek ea el f1 f2
    (cut_again v.context (kid_field v.kid)) (left_again v.kid) in
    let f = fields_by flags p rest back (kid_field v.kid) (flag v.context == 1) (flag v.kid == 1) b.0 eh ek ea el in
    let n = number_again v.number back fits.number in
    let c = context_again v.context (kid_field v.kid) in
    let k = kid_again v.kid in
    let same : fields_in (flags ∷ rest) ≡ v = f ∙ remade v _ _ _ n c k in
    ap option_at (text_of v flags rest refl some refl) ∙ at_none (flags ∷ rest) v (none_from flags rest w) same

no_flags : (number : Option ℕ) (context kid : Option (List ℕ)) → 16 * flag context + 8 * flag kid + length (number_field number) ≡ 0
    → option_at (option_text (record { number = number; context = context; kid = kid })) ≡ Ok (record { number = number; context = context; kid = kid })
unfolding option_text option_at first_fault fields_in
no_flags None None None e = refl
no_flags None None (Some kid) e = absurd (omega arith)
no_flags None (Some context) kid e = absurd (omega arith)
no_flags (Some n) context kid e = let h = length-partial_iv n in absurd (omega (arith, h.0))

zero_or_not : (n : ℕ) → (n ≡ 0) ⊎ (n ≢ 0)
zero_or_not zero = inl refl
zero_or_not (suc n) = inr (λ e. absurd (omega arith))

-- a value's spelling is read as the value
pub spelled_read : (bytes : List ℕ) (v : Fields) → IsOptionValue bytes v → option_at bytes ≡ Ok v
spelled_read bytes v is =
    ap option_at is.spelled ∙ elim (zero_or_not (flags_of v)) [
      | inl z ↦ no_flags v.number v.context v.kid z
      | inr some ↦ some_flags v some is.fits
    ]

-- a value has one reading at most, and no fault beside it
pub one_value : (bytes : List ℕ) (v w : Fields) → IsOptionValue bytes v → IsOptionValue bytes w → v ≡ w
one_value bytes v w a b = ok_is v w (sym (spelled_read bytes v a) ∙ spelled_read bytes w b)

pub no_value : (bytes : List ℕ) (v : Fields) (at : ℕ) → IsOptionValue bytes v → first_fault bytes ≡ Some at → ⊥
no_value bytes v at a f = let n = none_read bytes v (spelled_read bytes v a) in cc

context_few : (context : Option (List ℕ)) → IfSome context (λ c. length c ≤ 8) → length (context_field context) ≤ 9
context_few None h = omega arith
context_few (Some c) h = omega arith

-- the length of what a request says
pub request_length : (number : ℕ) (context : Option (List ℕ)) (kid : List ℕ) → IfSome context (λ c. length c ≤ 8) → length kid ≤ 3
    → length (option_text (record { number = Some number; context = context; kid = Some kid })) ≤ 18
request_length number context kid hc hk =
    let v : Fields = record { number = Some number; context = context; kid = Some kid } in
    let rest = partial_iv number ++ (context_field context ++ kid) in
    let piv = length-partial_iv number in
    let e = text_of v (flags_of v) rest refl (some_not (flags_of v) (omega (arith, piv.0))) refl in
    omega (
      arith,
      ap length e,
      length-append (partial_iv number) (context_field context ++ kid),
      length-append (context_field context) kid,
      context_few context hc,
      piv.1,
    )

-- what a reading says of the bytes
pub record IsReadAs (bytes : List ℕ) (r : Result OptionValue BadOption) : Type 0 where
  pub found : IfOk r (λ v. IsOptionValue bytes (fields_of v))
  pub fault : MatchResult r (λ v. first_fault bytes ≡ None) (λ e. first_fault bytes ≡ Some e.0)

pub read_as_is : (bytes : List ℕ) → ((i : ℕ) → get_or bytes i 0 < 256) → (r : Result OptionValue BadOption) → read_as r ≡ option_at bytes
    → IsReadAs bytes r
read_as_is bytes b (Ok v) e = record {
  found = read_spelled bytes (fields_of v) b (sym e);
  fault = none_read bytes (fields_of v) (sym e);
}
read_as_is bytes b (Err x) e = record { found = tt; fault = fault_read bytes x.0 (sym e) }
