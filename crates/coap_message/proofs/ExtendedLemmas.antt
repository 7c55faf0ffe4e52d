-- Lemmas about extended numbers: what is read is spelled so, and what is spelled so is read.
use Rattle.std.proofs.Common.{◌≡◌, ℕ, ◌+◌, ◌-◌, ◌*◌, ◌/◌, ◌%◌, ◌<◌, ◌≤◌, Bool, true, false, cond, ltb, eqb, List, [], ◌∷◌, ◌++◌, length, take, drop, Option, Some, None, refl, sym, ap, subst, ◌∙◌, inl, inr, ◌⊎◌, arith, append_assoc}
use Rattle.std.proofs.lemmas.Bool.{cases_lt, ltb-true, ltb-false, eqb-true, lt-ltb, le-ltb}
use Rattle.std.proofs.lemmas.Option.{some_pair_parts}
use Rattle.std.proofs.lemmas.List.{take_at, drop_at, take-append-drop, length-append, length-take-le}
use Rattle.std.specs.Prelude.{option_and_then}
use Rattle.std.specs.List.{AllByRecursion}
use Rattle.coap_message.specs.Extended.{IsExtended, IsSized, nibble_of, extension}
use Rattle.coap_message.specs.Reading.{one_byte, two_bytes, extended_at, sized_at}

-- the value of a step that did not fail
pub bind_some : {A B : Type 0} (o : Option A) (f : A → Option B) (y : B) → option_and_then f o ≡ Some y
    → (x : A) × (o ≡ Some x) × (f x ≡ Some y)
bind_some (Some x) f y e = (x, refl, e)
bind_some None f y e = absurd cc

-- a test that did not fail
pub guard_some : {A : Type 0} (b : Bool) (x y : A) → cond b None (Some x) ≡ Some y → (b ≡ false) × (x ≡ y)
guard_some true x y e = absurd cc
guard_some false x y e = (refl, cc)

-- which way a test went
pub chosen : {A : Type 0} (b : Bool) (x y z : A) → cond b x y ≡ z → ((b ≡ true) × (x ≡ z)) ⊎ ((b ≡ false) × (y ≡ z))
chosen true x y z e = inl (refl, e)
chosen false x y z e = inr (refl, e)

-- two pieces before the rest
pub joined : (bytes front others middle rest : List ℕ) → bytes ≡ front ++ others → others ≡ middle ++ rest
    → bytes ≡ (front ++ middle) ++ rest
joined bytes front others middle rest e f = e ∙ ap (λ (r : List ℕ). front ++ r) f ∙ sym (append_assoc front middle rest)

-- what comes before the rest, and extends the nibble to n
pub Extends : ℕ → List ℕ → ℕ → List ℕ → Type 0
Extends nibble bytes n rest = (more : List ℕ) × (bytes ≡ more ++ rest) × IsExtended nibble more n

one_found : (nibble : ℕ) (bytes : List ℕ) (n : ℕ) (rest : List ℕ) → nibble ≡ 13 → one_byte bytes ≡ Some (n, rest)
    → Extends nibble bytes n rest
unfolding Extends
one_found nibble [] n rest is e = absurd cc
one_found nibble (a ∷ bytes) n rest is e =
    let p = some_pair_parts (a + 13) n bytes rest e in (a ∷ [], ap (λ r. a ∷ r) p.1, (is, sym p.0))

two_found : (nibble : ℕ) (bytes : List ℕ) (n : ℕ) (rest : List ℕ) → nibble ≡ 14 → two_bytes bytes ≡ Some (n, rest)
    → Extends nibble bytes n rest
unfolding Extends
two_found nibble [] n rest is e = absurd cc
two_found nibble (a ∷ []) n rest is e = absurd cc
two_found nibble (a ∷ b ∷ bytes) n rest is e =
    let p = some_pair_parts (256 * a + b + 269) n bytes rest e in (a ∷ b ∷ [], ap (λ r. a ∷ b ∷ r) p.1, (is, sym p.0))

-- what is read is spelled so
pub extended_found : (nibble : ℕ) (bytes : List ℕ) (n : ℕ) (rest : List ℕ) → extended_at nibble bytes ≡ Some (n, rest)
    → (more : List ℕ) × (bytes ≡ more ++ rest) × IsExtended nibble more n
unfolding extended_at Extends
extended_found nibble bytes n rest e =
    let two : Option (ℕ × List ℕ) = cond (eqb nibble 14) (two_bytes bytes) None in
    let one : Option (ℕ × List ℕ) = cond (eqb nibble 13) (one_byte bytes) two in
    elim (chosen (ltb nibble 13) (Some (nibble, bytes)) one (Some (n, rest)) e) [
      | inl w ↦
          let p = some_pair_parts nibble n bytes rest w.1 in
          let small : n < 13 = omega (arith, ltb-true nibble 13 w.0, p.0) in
          ([], p.1, (p.0, small))
      | inr w ↦ elim (chosen (eqb nibble 13) (one_byte bytes) two (Some (n, rest)) w.1) [
        | inl v ↦ one_found nibble bytes n rest (eqb-true nibble 13 v.0) v.1
        | inr v ↦ elim (chosen (eqb nibble 14) (two_bytes bytes) None (Some (n, rest)) v.1) [
          | inl u ↦ two_found nibble bytes n rest (eqb-true nibble 14 u.0) u.1
          | inr u ↦ absurd (let f = u.1 in cc)
        ]
      ]
    ]

-- what is spelled so is read
pub extended_again : (nibble : ℕ) (more : List ℕ) (n : ℕ) (rest : List ℕ) → IsExtended nibble more n
    → extended_at nibble (more ++ rest) ≡ Some (n, rest)
unfolding extended_at
extended_again nibble [] n rest is =
    rw (lt-ltb nibble 13 (omega (arith, is.0, is.1))) (ap (λ (k : ℕ). Some (k, rest)) is.0)
extended_again nibble (a ∷ []) n rest is =
    subst (λ (k : ℕ). extended_at k (a ∷ rest) ≡ Some (n, rest)) (sym is.0) (ap (λ (k : ℕ). Some (k, rest)) (sym is.1))
extended_again nibble (a ∷ b ∷ []) n rest is =
    subst (λ (k : ℕ). extended_at k (a ∷ b ∷ rest) ≡ Some (n, rest)) (sym is.0) (ap (λ (k : ℕ). Some (k, rest)) (sym is.1))
extended_again nibble (a ∷ b ∷ c ∷ more) n rest is = absurd is

-- a nibble that stands for a number isn't 15
pub nibble_below : (nibble : ℕ) (more : List ℕ) (n : ℕ) → IsExtended nibble more n → nibble < 15
nibble_below nibble [] n is = omega (arith, is.0, is.1)
nibble_below nibble (a ∷ []) n is = omega (arith, is.0)
nibble_below nibble (a ∷ b ∷ []) n is = omega (arith, is.0)
nibble_below nibble (a ∷ b ∷ c ∷ more) n is = absurd is

-- what is written is spelled so
pub IsExtended-written : (n : ℕ) → IsExtended (nibble_of n) (extension n) n
IsExtended-written n =
    elim (cases_lt n 13) [
      | inl lt ↦ rw (lt-ltb n 13 lt) (refl, lt)
      | inr le ↦ elim (cases_lt n 269) [
        | inl lt ↦ let is : n ≡ (n - 13) + 13 = omega arith in rw (le-ltb n 13 le, lt-ltb n 269 lt) (refl, is)
        | inr far ↦
            let is : n ≡ 256 * ((n - 269) / 256) + (n - 269) % 256 + 269 = omega arith in
            rw (le-ltb n 13 le, le-ltb n 269 far) (refl, is)
      ]
    ]

-- what is read is spelled so
pub sized_found : (nibble : ℕ) (bytes value rest : List ℕ) → sized_at nibble bytes ≡ Some (value, rest)
    → (spelled : List ℕ) × (bytes ≡ spelled ++ rest) × IsSized nibble spelled value
unfolding sized_at
sized_found nibble bytes value rest e =
    let b =
    bind_some (extended_at nibble bytes) (λ n. cond (ltb (length n.1) n.0) None (Some (take n.0 n.1, drop n.0 n.1))) (value, rest) e in
    let n = b.0 in
    let found = extended_found nibble bytes n.0 n.1 b.1 in
    let g = guard_some (ltb (length n.1) n.0) (take n.0 n.1, drop n.0 n.1) (value, rest) b.2 in
    let value-is : take n.0 n.1 ≡ value = ap (λ (p : List ℕ × List ℕ). p.0) g.1 in
    let long : n.0 ≤ length n.1 = ltb-false _ _ g.0 in
    let len : length value ≡ n.0 = ap length (sym value-is) ∙ length-take-le n.0 n.1 long in
    let parts : n.1 ≡ value ++ rest = sym (take-append-drop n.0 n.1) ∙ ap (λ (p : List ℕ × List ℕ). p.0 ++ p.1) g.1 in
    let sized : IsSized nibble (found.0 ++ value) value = record { more = found.0; length_is = rw len found.2; spelled_is = refl } in
    (found.0 ++ value, joined bytes found.0 n.1 value rest found.1 parts, sized)

-- what is spelled so is read
pub sized_again : (nibble : ℕ) (spelled value rest : List ℕ) → IsSized nibble spelled value
    → sized_at nibble (spelled ++ rest) ≡ Some (value, rest)
unfolding sized_at
sized_again nibble spelled value rest is =
    let regrouped : spelled ++ rest ≡ is.more ++ (value ++ rest) =
    ap (λ (s : List ℕ). s ++ rest) is.spelled_is ∙ append_assoc is.more value rest in
    let long : ltb (length (value ++ rest)) (length value) ≡ false =
    le-ltb _ _ (omega (arith, length-append value rest)) in
    ap (sized_at nibble) regrouped
    ∙ rw (
      extended_again nibble is.more (length value) (value ++ rest) is.length_is,
      long,
      take_at value rest (length value) refl,
      drop_at value rest (length value) refl,
    ) refl

-- what is written is spelled so
pub IsSized-written : (value : List ℕ) → IsSized (nibble_of (length value)) (extension (length value) ++ value) value
IsSized-written value =
    record { more = extension (length value); length_is = IsExtended-written (length value); spelled_is = refl }

-- a number has one form of bytes
pub one_form : (n nibble : ℕ) (more : List ℕ) → AllByRecursion (λ byte. byte < 256) more → IsExtended nibble more n
    → (nibble ≡ nibble_of n) × (more ≡ extension n)
one_form n nibble [] bytes is = rw (lt-ltb n 13 is.1) (is.0, refl)
one_form n nibble (a ∷ []) bytes is =
    let above : 13 ≤ n = omega (arith, is.1) in
    let below : n < 269 = omega (arith, is.1, bytes.0) in
    let a-is : a ≡ n - 13 = omega (arith, is.1) in
    rw (le-ltb n 13 above, lt-ltb n 269 below) (is.0, ap (λ (k : ℕ). k ∷ []) a-is)
one_form n nibble (a ∷ b ∷ []) bytes is =
    let above : 13 ≤ n = omega (arith, is.1) in
    let far : 269 ≤ n = omega (arith, is.1) in
    let a-is : a ≡ (n - 269) / 256 = omega (arith, is.1, bytes.1.0) in
    let b-is : b ≡ (n - 269) % 256 = omega (arith, is.1, bytes.1.0) in
    rw (le-ltb n 13 above, le-ltb n 269 far) (is.0, ap (λ (k : ℕ). k ∷ b ∷ []) a-is ∙ ap (λ (k : ℕ). (n - 269) / 256 ∷ k ∷ []) b-is)
one_form n nibble (a ∷ b ∷ c ∷ more) bytes is = absurd is
