-- A head that is read is spelled so, and a head that is spelled is read.
use Rattle.std.proofs.Common.{◌≡◌, ◌⊎◌, ℕ, ◌*◌, ◌%◌, ◌<◌, ◌≤◌, Bool, true, false, cond, eqb, ltb, List, [], ◌∷◌, ◌++◌, length, take, drop, Result, Ok, Err, refl, sym, ap, subst, ◌∙◌, arith, inl, inr}
use Rattle.std.specs.Int.{Width, w8, w16, w32, w64, byte_len, from_be_bytes}
use Rattle.std.proofs.lemmas.Bool.{ltb-false, le-ltb, lt-ltb, ltb-true, eqb-true, eq-eqb}
use Rattle.std.proofs.lemmas.List.{take_at, drop_at, take-append-drop, length-append, length-take}
use Rattle.cbor_item.specs.declared.fault.ItemFault.{ItemFault}
use Rattle.cbor_item.specs.declared.fault.ItemFault.TheVariants.{Truncated, Kind, Indefinite}
use Rattle.cbor_item.specs.declared.head.Major.{Major}
use Rattle.cbor_item.specs.declared.head.Major.TheVariants.{Unsigned, Negative, Bytes, Text, Array, Map, Tag, Simple}
use Rattle.cbor_item.specs.Input.{place, ◌>>=◌}
use Rattle.cbor_item.specs.Head.{code_of, major_of, IsArgument, IsHead, number_at, argument_by, argument_at, argument_of}

-- the value of a step that did not fail
pub bind_ok : {A B : Type 0} (r : Result A ItemFault) (f : A → Result B ItemFault) (y : B) → (r >>= f) ≡ Ok y → (x : A) × (r ≡ Ok x) × (f x ≡ Ok y)
bind_ok (Ok x) f y e = (x, refl, e)
bind_ok (Err d) f y e = absurd cc

-- a test that did not fail
pub guard_ok : {A : Type 0} (b : Bool) (d : ItemFault) (x y : A) → cond b (Err d) (Ok x) ≡ Ok y → (b ≡ false) × (x ≡ y)
guard_ok true d x y e = absurd cc
guard_ok false d x y e = (refl, cc)

-- which way a test went
pub chosen : {A : Type 0} (b : Bool) (x y z : A) → cond b x y ≡ z → ((b ≡ true) × (x ≡ z)) ⊎ ((b ≡ false) × (y ≡ z))
chosen true x y z e = inl (refl, e)
chosen false x y z e = inr (refl, e)

-- what was read comes before what is left
pub record Takes {Y : Type 0} (IsText : List ℕ → Y → Type 0) (bytes : List ℕ) (value : Y) (rest : List ℕ) : Type 0 where
  pub text : List ℕ
  pub is_text : IsText text value
  pub parts : bytes ≡ text ++ rest

number_takes : (w : Width) (at : ℕ) (bytes : List ℕ) (n : ℕ) (rest : List ℕ) → number_at w at bytes ≡ Ok (n, rest)
    → Takes (λ digits m. (length digits ≡ byte_len w) × (m ≡ from_be_bytes w digits)) bytes n rest
number_takes w at bytes n rest e =
    let g = guard_ok (ltb (length bytes) (byte_len w)) (Truncated at) (from_be_bytes w (take (byte_len w) bytes), drop (byte_len w) bytes) (n, rest) e in
    let long : byte_len w ≤ length bytes = ltb-false _ _ g.0 in
    record {
      text = take (byte_len w) bytes;
      is_text = (omega (arith, length-take (byte_len w) bytes), sym (ap (λ (p : ℕ × List ℕ). p.0) g.1));
      parts = sym (take-append-drop (byte_len w) bytes) ∙ ap (λ (p : ℕ × List ℕ). take (byte_len w) bytes ++ p.1) g.1;
    }

number_again : (w : Width) (at : ℕ) (digits rest : List ℕ) → length digits ≡ byte_len w
    → number_at w at (digits ++ rest) ≡ Ok (from_be_bytes w digits, rest)
number_again w at digits rest len =
    let long : ltb (length (digits ++ rest)) (byte_len w) ≡ false = le-ltb _ _ (omega (arith, length-append digits rest)) in
    rw (long, take_at digits rest (byte_len w) len, drop_at digits rest (byte_len w) len) refl

abbrev done : {A : Type 0} → A → Result A ItemFault
done x = Ok x

pub ok_is : {A : Type 0} (x y : A) → done x ≡ done y → x ≡ y
ok_is x y e = cc

-- the first byte's own number
immediate : (info : ℕ) (bytes : List ℕ) (n : ℕ) (rest : List ℕ) → info < 24 → done {A = ℕ × List ℕ} (info, bytes) ≡ Ok (n, rest)
    → Takes (IsArgument info) bytes n rest
immediate info bytes n rest lt e =
    let same = ok_is {A = ℕ × List ℕ} (info, bytes) (n, rest) e in
    record {
      text = [];
      is_text = inl (lt, refl, sym (ap (λ (p : ℕ × List ℕ). p.0) same));
      parts = ap (λ (p : ℕ × List ℕ). p.1) same;
    }

-- one of the widths, as the argument of this additional information
widely : (w : Width) (info at : ℕ) (bytes : List ℕ) (n : ℕ) (rest : List ℕ)
    → ((digits : List ℕ) → length digits ≡ byte_len w → n ≡ from_be_bytes w digits → IsArgument info digits n)
    → number_at w at bytes ≡ Ok (n, rest) → Takes (IsArgument info) bytes n rest
widely w info at bytes n rest means e =
    let t = number_takes w at bytes n rest e in
    record { text = t.text; is_text = means t.text t.is_text.0 t.is_text.1; parts = t.parts }

pub argument_takes : (info at : ℕ) (bytes : List ℕ) (n : ℕ) (rest : List ℕ) → argument_by info at bytes ≡ Ok (n, rest)
    → Takes (IsArgument info) bytes n rest
unfolding argument_by
argument_takes info at bytes n rest e =
    let refused : Result (ℕ × List ℕ) ItemFault = cond (eqb info 31) (Err (Indefinite at)) (Err (Kind at)) in
    let from27 : Result (ℕ × List ℕ) ItemFault = cond (eqb info 27) (number_at w64 at bytes) refused in
    let from26 : Result (ℕ × List ℕ) ItemFault = cond (eqb info 26) (number_at w32 at bytes) from27 in
    let from25 : Result (ℕ × List ℕ) ItemFault = cond (eqb info 25) (number_at w16 at bytes) from26 in
    let from24 : Result (ℕ × List ℕ) ItemFault = cond (eqb info 24) (number_at w8 at bytes) from25 in
    let read : Result (ℕ × List ℕ) ItemFault = Ok (n, rest) in
    elim (chosen (ltb info 24) (Ok (info, bytes)) from24 read e) [
      | inl p ↦ immediate info bytes n rest (ltb-true _ _ p.0) p.1
      | inr p ↦ elim (chosen (eqb info 24) (number_at w8 at bytes) from25 read p.1) [
        | inl q ↦ widely w8 info at bytes n rest (λ digits len is. inr (inl (eqb-true _ _ q.0, len, is))) q.1
        | inr q ↦ elim (chosen (eqb info 25) (number_at w16 at bytes) from26 read q.1) [
          | inl r ↦ widely w16 info at bytes n rest (λ digits len is. inr (inr (inl (eqb-true _ _ r.0, len, is)))) r.1
          | inr r ↦ elim (chosen (eqb info 26) (number_at w32 at bytes) from27 read r.1) [
            | inl s ↦ widely w32 info at bytes n rest (λ digits len is. inr (inr (inr (inl (eqb-true _ _ s.0, len, is))))) s.1
            | inr s ↦ elim (chosen (eqb info 27) (number_at w64 at bytes) refused read s.1) [
              | inl u ↦ widely w64 info at bytes n rest (λ digits len is. inr (inr (inr (inr (eqb-true _ _ u.0, len, is))))) u.1
              | inr u ↦ elim (chosen (eqb info 31) (Err (Indefinite at)) (Err (Kind at)) read u.1) [ inl v ↦ absurd cc | inr v ↦ absurd cc ]
            ]
          ]
        ]
      ]
    ]

again_by : (w : Width) (info k at : ℕ) (digits rest : List ℕ) (n : ℕ) → argument_by k at (digits ++ rest) ≡ number_at w at (digits ++ rest)
    → info ≡ k → length digits ≡ byte_len w → n ≡ from_be_bytes w digits → argument_by info at (digits ++ rest) ≡ Ok (n, rest)
again_by w info k at digits rest n step same len is = rw (same, step, is) (number_again w at digits rest len)

pub argument_again : (info at : ℕ) (digits rest : List ℕ) (n : ℕ) → IsArgument info digits n → argument_by info at (digits ++ rest) ≡ Ok (n, rest)
unfolding argument_by
argument_again info at digits rest n (inl h) = rw (lt-ltb info 24 h.0, h.1, h.2) refl
argument_again info at digits rest n (inr (inl h)) = again_by w8 info 24 at digits rest n refl h.0 h.1 h.2
argument_again info at digits rest n (inr (inr (inl h))) = again_by w16 info 25 at digits rest n refl h.0 h.1 h.2
argument_again info at digits rest n (inr (inr (inr (inl h)))) = again_by w32 info 26 at digits rest n refl h.0 h.1 h.2
argument_again info at digits rest n (inr (inr (inr (inr h)))) = again_by w64 info 27 at digits rest n refl h.0 h.1 h.2

-- ---- heads

pub argument_at-takes : (end first : ℕ) (bytes : List ℕ) (n : ℕ) (rest : List ℕ) → argument_at end (first ∷ bytes) ≡ Ok (n, rest)
    → Takes (λ text m. IsHead text (major_of first) m) (first ∷ bytes) n rest
unfolding argument_at
argument_at-takes end first bytes n rest e =
    let t = argument_takes (first % 32) (place end (first ∷ bytes)) bytes n rest e in
    record {
      text = first ∷ t.text;
      is_text = record { first = first; bytes = t.text; spelled = refl; kind = refl; means = t.is_text };
      parts = ap (λ (xs : List ℕ). first ∷ xs) t.parts;
    }

pub argument_at-again : (end first : ℕ) (digits rest : List ℕ) (n : ℕ) → IsArgument (first % 32) digits n
    → argument_at end (first ∷ (digits ++ rest)) ≡ Ok (n, rest)
unfolding argument_at
argument_at-again end first digits rest n h = argument_again (first % 32) (place end (first ∷ (digits ++ rest))) digits rest n h

-- the major type with this code
major_back : (m : Major) → major_of (32 * code_of m) ≡ m
major_back Unsigned = refl
major_back Negative = refl
major_back Bytes = refl
major_back Text = refl
major_back Array = refl
major_back Map = refl
major_back Tag = refl
major_back Simple = refl

pub same_major : (a b : Major) → code_of a ≡ code_of b → a ≡ b
same_major a b h = sym (major_back a) ∙ ap (λ (c : ℕ). major_of (32 * c)) h ∙ major_back b

pub argument_of-takes : (major : Major) (end : ℕ) (bytes : List ℕ) (n : ℕ) (rest : List ℕ) → argument_of major end bytes ≡ Ok (n, rest)
    → Takes (λ text m. IsHead text major m) bytes n rest
unfolding argument_of
argument_of-takes major end [] n rest e = absurd cc
argument_of-takes major end (first ∷ bytes) n rest e =
    elim (chosen (eqb (code_of (major_of first)) (code_of major)) (argument_at end (first ∷ bytes)) (Err (Kind (place end (first ∷ bytes)))) (Ok (n, rest)) e) [
      | inl p ↦
          let same = same_major (major_of first) major (eqb-true _ _ p.0) in
          subst (λ (k : Major). Takes (λ text m. IsHead text k m) (first ∷ bytes) n rest) same (argument_at-takes end first bytes n rest p.1)
      | inr p ↦ absurd cc
    ]

pub argument_of-again : (major : Major) (end : ℕ) (text : List ℕ) (n : ℕ) (rest : List ℕ) → IsHead text major n
    → argument_of major end (text ++ rest) ≡ Ok (n, rest)
unfolding argument_of
argument_of-again major end text n rest h =
    let same : eqb (code_of (major_of h.first)) (code_of major) ≡ true = eq-eqb _ _ (ap code_of h.kind) in
    rw (h.spelled, same) (argument_at-again end h.first h.bytes rest n h.means)
