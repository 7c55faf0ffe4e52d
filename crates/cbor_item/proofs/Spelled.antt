-- What is written says what was to be written, in as few bytes as can be.
use Rattle.std.proofs.Common.{◌≡◌, ℕ, suc, ◌+◌, ◌*◌, ◌/◌, ◌%◌, ◌^◌, ◌<◌, ◌≤◌, List, [], ◌∷◌, ◌++◌, length, get_or, All, Result, Ok, Err, refl, sym, subst, arith, inl, inr, lit<, lit≤}
use Rattle.std.specs.Prelude.{ℤ, pos, negsuc, FitsSigned}
use Rattle.std.specs.Int.{w8, w16, w32, w64, from_be_bytes, to_be_bytes}
use Rattle.std.proofs.lemmas.Bool.{cases_lt, le-ltb, lt-ltb}
use Rattle.std.proofs.lemmas.List.{length-append, get_or_past, get_or_append_left}
use Rattle.std.proofs.lemmas.Nat.{from_be_bytes-to_be_bytes_2, from_be_bytes-to_be_bytes_4, from_be_bytes-to_be_bytes_8}
use Rattle.cbor_item.specs.declared.fault.Full.{Full}
use Rattle.cbor_item.specs.declared.head.Major.{Major}
use Rattle.cbor_item.specs.declared.head.Major.TheVariants.{Unsigned, Negative, Bytes, Text, Array, Map, Tag, Simple}
use Rattle.cbor_item.specs.Head.{IsHead, IsArgument, code_of, major_of, head_text}
use Rattle.cbor_item.specs.Reading.{IsInt, IsString, IsNull}
use Rattle.cbor_item.specs.Spelling.{int_text, string_text, null_text, Writes, IsShortest, IsSpelled}

-- the text says so, and is the shortest that does
pub record Spells (SaysSo : List ℕ → Type 0) (text : List ℕ) : Type 0 where
  pub says : SaysSo text
  pub shortest : IsShortest SaysSo text

pub is_spelled : (SaysSo : List ℕ → Type 0) (text : List ℕ) → Spells SaysSo text → (capacity : ℕ) (old new : List ℕ) (result : Result (Unit {0}) Full)
    → Writes capacity text old new result → IsSpelled SaysSo old new result
is_spelled SaysSo text spells capacity old new (Ok done) h = (text, h.0, spells.says, spells.shortest)
is_spelled SaysSo text spells capacity old new (Err full) h = tt

-- ---- first bytes

kind_is : (m : Major) (info : ℕ) → info < 32 → major_of (32 * code_of m + info) ≡ m
kind_is Unsigned info lt = let q : (0 + info) / 32 ≡ 0 = omega arith in rw q refl
kind_is Negative info lt = let q : (32 + info) / 32 ≡ 1 = omega arith in rw q refl
kind_is Bytes info lt = let q : (64 + info) / 32 ≡ 2 = omega arith in rw q refl
kind_is Text info lt = let q : (96 + info) / 32 ≡ 3 = omega arith in rw q refl
kind_is Array info lt = let q : (128 + info) / 32 ≡ 4 = omega arith in rw q refl
kind_is Map info lt = let q : (160 + info) / 32 ≡ 5 = omega arith in rw q refl
kind_is Tag info lt = let q : (192 + info) / 32 ≡ 6 = omega arith in rw q refl
kind_is Simple info lt = let q : (224 + info) / 32 ≡ 7 = omega arith in rw q refl

info_is : (c info : ℕ) → info < 32 → (32 * c + info) % 32 ≡ info
info_is c info lt = omega arith

-- a head whose first byte has this additional information
head_by : (m : Major) (info : ℕ) (digits : List ℕ) (n : ℕ) → info < 32 → IsArgument info digits n → IsHead ((32 * code_of m + info) ∷ digits) m n
head_by m info digits n lt means = record {
  first = 32 * code_of m + info;
  bytes = digits;
  spelled = refl;
  kind = kind_is m info lt;
  means = subst (λ (i : ℕ). IsArgument i digits n) (sym (info_is (code_of m) info lt)) means;
}

-- ---- the shortest head is a head

module _ (m : Major) (n : ℕ) where
  text1 : n < 24 → head_text m n ≡ (32 * code_of m + n) ∷ []
  text1 lt = rw (lt-ltb n 24 lt) refl

  text2 : 24 ≤ n → n < 2 ^ 8 → head_text m n ≡ (32 * code_of m + 24) ∷ to_be_bytes w8 n
  text2 le lt = rw (le-ltb n 24 le, lt-ltb n (2 ^ 8) lt) refl

  text3 : 2 ^ 8 ≤ n → n < 2 ^ 16 → head_text m n ≡ (32 * code_of m + 25) ∷ to_be_bytes w16 n
  text3 le lt = rw (le-ltb n 24 (omega arith), le-ltb n (2 ^ 8) le, lt-ltb n (2 ^ 16) lt) refl

  text5 : 2 ^ 16 ≤ n → n < 2 ^ 32 → head_text m n ≡ (32 * code_of m + 26) ∷ to_be_bytes w32 n
  text5 le lt = rw (le-ltb n 24 (omega arith), le-ltb n (2 ^ 8) (omega arith), le-ltb n (2 ^ 16) le, lt-ltb n (2 ^ 32) lt) refl

  text9 : 2 ^ 32 ≤ n → head_text m n ≡ (32 * code_of m + 27) ∷ to_be_bytes w64 n
  text9 le = rw (le-ltb n 24 (omega arith), le-ltb n (2 ^ 8) (omega arith), le-ltb n (2 ^ 16) (omega arith), le-ltb n (2 ^ 32) le) refl

  one_byte : n < 2 ^ 8 → n ≡ from_be_bytes w8 (to_be_bytes w8 n)
  one_byte lt = omega arith

  says : n < 2 ^ 64 → IsHead (head_text m n) m n
  says fits =
      elim (cases_lt n 24) [
        | inl lt ↦ rw (text1 lt) (head_by m n [] n (omega arith) (inl (lt, refl, refl)))
        | inr ge24 ↦ elim (cases_lt n (2 ^ 8)) [
          | inl lt ↦ rw (text2 ge24 lt) (head_by m 24 (to_be_bytes w8 n) n (lit< tt) (inr (inl (refl, refl, one_byte lt))))
          | inr ge8 ↦ elim (cases_lt n (2 ^ 16)) [
            | inl lt ↦ rw (text3 ge8 lt) (head_by m 25 (to_be_bytes w16 n) n (lit< tt) (inr (inr (inl (refl, refl, sym (from_be_bytes-to_be_bytes_2 n lt))))))
            | inr ge16 ↦ elim (cases_lt n (2 ^ 32)) [
              | inl lt ↦ rw (text5 ge16 lt) (head_by m 26 (to_be_bytes w32 n) n (lit< tt) (inr (inr (inr (inl (refl, refl, sym (from_be_bytes-to_be_bytes_4 n lt)))))))
              | inr ge32 ↦ rw (text9 ge32) (head_by m 27 (to_be_bytes w64 n) n (lit< tt) (inr (inr (inr (inr (refl, refl, sym (from_be_bytes-to_be_bytes_8 n fits)))))))
            ]
          ]
        ]
      ]

  -- ---- and no head is shorter

  pub most9 : length (head_text m n) ≤ 9
  most9 =
      elim (cases_lt n 24) [
        | inl lt ↦ rw (text1 lt) (lit≤ tt)
        | inr ge24 ↦ elim (cases_lt n (2 ^ 8)) [
          | inl lt ↦ rw (text2 ge24 lt) (lit≤ tt)
          | inr ge8 ↦ elim (cases_lt n (2 ^ 16)) [
            | inl lt ↦ rw (text3 ge8 lt) (lit≤ tt)
            | inr ge16 ↦ elim (cases_lt n (2 ^ 32)) [
              | inl lt ↦ rw (text5 ge16 lt) (lit≤ tt)
              | inr ge32 ↦ rw (text9 ge32) (lit≤ tt)
            ]
          ]
        ]
      ]

  pub most1 : n < 24 → length (head_text m n) ≤ 1
  most1 lt = rw (text1 lt) (lit≤ tt)

  pub most2 : n < 2 ^ 8 → length (head_text m n) ≤ 2
  most2 lt8 =
      elim (cases_lt n 24) [ inl lt ↦ rw (text1 lt) (lit≤ tt) | inr ge24 ↦ rw (text2 ge24 lt8) (lit≤ tt) ]

  pub most3 : n < 2 ^ 16 → length (head_text m n) ≤ 3
  most3 lt16 =
      elim (cases_lt n (2 ^ 8)) [ inl lt ↦ omega (arith, most2 lt) | inr ge8 ↦ rw (text3 ge8 lt16) (lit≤ tt) ]

  pub most5 : n < 2 ^ 32 → length (head_text m n) ≤ 5
  most5 lt32 =
      elim (cases_lt n (2 ^ 16)) [ inl lt ↦ omega (arith, most3 lt) | inr ge16 ↦ rw (text5 ge16 lt32) (lit≤ tt) ]

-- bytes, at each place
pub bytes_at : (bytes : List ℕ) → All (λ byte. byte < 256) bytes → (i : ℕ) → get_or bytes i 0 < 256
bytes_at bytes h i =
    elim (cases_lt i (length bytes)) [ inl lt ↦ h i 0 lt | inr le ↦ rw (get_or_past bytes i 0 le) (lit< tt) ]

abbrev AreBytes : List ℕ → Type 0
AreBytes bytes = (i : ℕ) → get_or bytes i 0 < 256

argument_len : (m : Major) (info : ℕ) (digits : List ℕ) (n : ℕ) → AreBytes digits → IsArgument info digits n → length (head_text m n) ≤ suc (length digits)
argument_len m info digits n b (inl h) = rw (text1 m n (omega (arith, h.0, h.2))) (omega arith)
argument_len m info digits n b (inr (inl h)) = omega (arith, most2 m n (omega (arith, h.2, b 0)), h.1)
argument_len m info digits n b (inr (inr (inl h))) = omega (arith, most3 m n (omega (arith, h.2, b 0, b 1)), h.1)
argument_len m info digits n b (inr (inr (inr (inl h)))) = omega (arith, most5 m n (omega (arith, h.2, b 0, b 1, b 2, b 3)), h.1)
argument_len m info digits n b (inr (inr (inr (inr h)))) = omega (arith, most9 m n, h.1)

head_len : (m : Major) (n : ℕ) (other : List ℕ) → AreBytes other → IsHead other m n → length (head_text m n) ≤ length other
head_len m n other b h =
    let tail : AreBytes h.bytes = λ i. subst (λ (xs : List ℕ). get_or xs (suc i) 0 < 256) h.spelled (b (suc i)) in
    rw h.spelled (argument_len m (h.first % 32) h.bytes n tail h.means)

pub head_spells : (m : Major) (n : ℕ) → n < 2 ^ 64 → Spells (λ text. IsHead text m n) (head_text m n)
head_spells m n fits = record { says = says m n fits; shortest = λ other b h. head_len m n other (bytes_at other b) h }

pub int_spells : (z : ℤ) → FitsSigned w64 z → Spells (λ text. IsInt text z) (int_text z)
int_spells (pos n) fits = record {
  says = (says Unsigned n (omega (arith, fits.sfits)), omega (arith, fits.sfits));
  shortest = λ other b h. head_len Unsigned n other (bytes_at other b) h.0;
}
int_spells (negsuc n) fits = record {
  says = (says Negative n (omega (arith, fits.sfits)), omega (arith, fits.sfits));
  shortest = λ other b h. head_len Negative n other (bytes_at other b) h.0;
}

-- the bytes of a prefix
front_bytes : (front back : List ℕ) → AreBytes (front ++ back) → AreBytes front
front_bytes front back b i =
    elim (cases_lt i (length front)) [
      | inl lt ↦ rw (← get_or_append_left front back 0 i lt) (b i)
      | inr le ↦ rw (get_or_past front i 0 le) (lit< tt)
    ]

string_len : (kind : Major) (value head : List ℕ) → AreBytes (head ++ value) → IsHead head kind (length value)
    → length (string_text kind value) ≤ length (head ++ value)
string_len kind value head b h =
    let shorter : length (head_text kind (length value)) ≤ length head = head_len kind (length value) head (front_bytes head value b) h in
    rw (length-append (head_text kind (length value)) value, length-append head value) (omega (arith, shorter))

pub string_spells : (kind : Major) (value : List ℕ) → length value < 2 ^ 64 → Spells (λ text. IsString kind text value) (string_text kind value)
string_spells kind value fits = record {
  says = (head_text kind (length value), says kind (length value) fits, refl);
  shortest = λ other b h. rw h.2 (string_len kind value h.0 (subst (λ (xs : List ℕ). AreBytes xs) h.2 (bytes_at other b)) h.1);
}

pub null_spells : Spells (λ text. IsNull text tt) null_text
null_spells = record { says = refl; shortest = λ other bytes h. rw h (lit≤ tt) }
