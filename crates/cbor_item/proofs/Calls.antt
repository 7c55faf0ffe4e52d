-- The clauses of a reader's calls: what is found, and that nothing else would be.
use Rattle.std.proofs.Common.{◌≡◌, ℕ, ◌%◌, ◌^◌, ◌<◌, cond, eqb, ltb, List, [], ◌∷◌, ◌++◌, length, take, drop, Result, Ok, Err, refl, sym, ap, subst, ◌∙◌, append_assoc, arith, inl, inr}
use Rattle.std.specs.Prelude.{ℤ, pos, negsuc}
use Rattle.std.proofs.lemmas.Bool.{ltb-true, lt-ltb, eqb-true, ltb-false}
use Rattle.std.proofs.lemmas.List.{take_at, take-append-drop, length-take}
use Rattle.cbor_item.specs.declared.fault.ItemFault.{ItemFault}
use Rattle.cbor_item.specs.declared.fault.ItemFault.TheVariants.{Truncated, Kind}
use Rattle.cbor_item.specs.declared.head.Major.{Major}
use Rattle.cbor_item.specs.declared.head.Major.TheVariants.{Unsigned, Negative, Simple}
use Rattle.cbor_item.specs.Input.{Input, place, Reads, IsFound, IsOnly, ◌>>=◌}
use Rattle.cbor_item.specs.Head.{IsHead, IsArgument, major_of, argument_by, argument_at, argument_of}
use Rattle.cbor_item.specs.Item.{after_item, after_string}
use Rattle.cbor_item.specs.Reading.{IsInt, IsString, IsNull, IsSkipped, max_depth, magnitude_at, int_of, int_at, string_at, null_at, skip_at}
use Rattle.cbor_item.proofs.Heads.{bind_ok, guard_ok, chosen, ok_is, Takes, argument_at-takes, argument_at-again, argument_of-takes, argument_of-again}
use Rattle.cbor_item.proofs.Items.{string_again, item_passes, item_again}

-- reading from the left is the grammar
pub record IsReadingOf {Y : Type 0} (read : ℕ → List ℕ → Result (Y × List ℕ) ItemFault) (IsText : List ℕ → Y → Type 0) : Type 0 where
  pub takes : (end : ℕ) (bytes : List ℕ) (value : Y) (rest : List ℕ) → read end bytes ≡ Ok (value, rest) → Takes IsText bytes value rest
  pub again : (end : ℕ) (text : List ℕ) (value : Y) (rest : List ℕ) → IsText text value → read end (text ++ rest) ≡ Ok (value, rest)

module _ {X Y : Type 0} (view : X → Y) (IsText : List ℕ → Y → Type 0) (read : ℕ → List ℕ → Result (Y × List ℕ) ItemFault)
    (reading : IsReadingOf read IsText) (old new : Input) where
  pub is_found : (result : Result X ItemFault) → Reads view old new result (read old.end old.left) → IsFound view IsText old new result
  is_found (Ok x) h = let t = reading.takes old.end old.left (view x) new.left h.0 in (t.text, t.is_text, t.parts)
  is_found (Err fault) h = tt

  pub is_only : (result : Result X ItemFault) → Reads view old new result (read old.end old.left) → IsOnly view IsText old new result
  is_only result h =
      λ text rest value is_text same.
      subst (λ (r : Result (Y × List ℕ) ItemFault). Reads view old new result r)
      (ap (read old.end) same ∙ reading.again old.end text value rest is_text) h

pub reads_argument : (major : Major) → IsReadingOf (argument_of major) (λ text n. IsHead text major n)
reads_argument major = record { takes = argument_of-takes major; again = argument_of-again major }

-- ---- whole numbers with a sign

magnitude_takes : (end first : ℕ) (bytes : List ℕ) (n : ℕ) (rest : List ℕ) → magnitude_at end (first ∷ bytes) ≡ Ok (n, rest)
    → Takes (λ text m. IsHead text (major_of first) m × (m < 2 ^ 63)) (first ∷ bytes) n rest
magnitude_takes end first bytes n rest e =
    let b = bind_ok (argument_at end (first ∷ bytes)) (λ x. cond (ltb x.0 (2 ^ 63)) (Ok x) (Err (Kind (place end (first ∷ bytes))))) (n, rest) e in
    elim (chosen (ltb b.0.0 (2 ^ 63)) (Ok b.0) (Err (Kind (place end (first ∷ bytes)))) (Ok (n, rest)) b.2) [
      | inl p ↦
          let t = argument_at-takes end first bytes b.0.0 b.0.1 b.1 in
          subst (λ (x : ℕ × List ℕ). Takes (λ text m. IsHead text (major_of first) m × (m < 2 ^ 63)) (first ∷ bytes) x.0 x.1)
          (ok_is b.0 (n, rest) p.1)
          (record { text = t.text; is_text = (t.is_text, ltb-true _ _ p.0); parts = t.parts })
      | inr p ↦ absurd cc
    ]

magnitude_again : (end first : ℕ) (digits rest : List ℕ) (n : ℕ) → IsArgument (first % 32) digits n → n < 2 ^ 63
    → magnitude_at end (first ∷ (digits ++ rest)) ≡ Ok (n, rest)
magnitude_again end first digits rest n h lt = rw (argument_at-again end first digits rest n h, lt-ltb n (2 ^ 63) lt) refl

int_of-takes : (major : Major) (end first : ℕ) (bytes : List ℕ) (z : ℤ) (rest : List ℕ) → major_of first ≡ major
    → int_of major end (first ∷ bytes) ≡ Ok (z, rest) → Takes IsInt (first ∷ bytes) z rest
int_of-takes Unsigned end first bytes z rest m e =
    let b = bind_ok (magnitude_at end (first ∷ bytes)) (λ x. Ok (pos x.0, x.1)) (z, rest) e in
    let t = magnitude_takes end first bytes b.0.0 b.0.1 b.1 in
    let is : IsHead t.text Unsigned b.0.0 = subst (λ (k : Major). IsHead t.text k b.0.0) m t.is_text.0 in
    subst (λ (x : ℤ × List ℕ). Takes IsInt (first ∷ bytes) x.0 x.1) (ok_is (pos b.0.0, b.0.1) (z, rest) b.2)
    (record { text = t.text; is_text = (is, t.is_text.1); parts = t.parts })
int_of-takes Negative end first bytes z rest m e =
    let b = bind_ok (magnitude_at end (first ∷ bytes)) (λ x. Ok (negsuc x.0, x.1)) (z, rest) e in
    let t = magnitude_takes end first bytes b.0.0 b.0.1 b.1 in
    let is : IsHead t.text Negative b.0.0 = subst (λ (k : Major). IsHead t.text k b.0.0) m t.is_text.0 in
    subst (λ (x : ℤ × List ℕ). Takes IsInt (first ∷ bytes) x.0 x.1) (ok_is (negsuc b.0.0, b.0.1) (z, rest) b.2)
    (record { text = t.text; is_text = (is, t.is_text.1); parts = t.parts })
int_of-takes _ end first bytes z rest m e = absurd cc

int_takes : (end : ℕ) (bytes : List ℕ) (z : ℤ) (rest : List ℕ) → int_at end bytes ≡ Ok (z, rest) → Takes IsInt bytes z rest
unfolding int_at
int_takes end [] z rest e = absurd cc
int_takes end (first ∷ bytes) z rest e = int_of-takes (major_of first) end first bytes z rest refl e

int_again : (end : ℕ) (text : List ℕ) (z : ℤ) (rest : List ℕ) → IsInt text z → int_at end (text ++ rest) ≡ Ok (z, rest)
unfolding int_at
int_again end text (pos n) rest h = rw (h.0.spelled, h.0.kind, magnitude_again end h.0.first h.0.bytes rest n h.0.means h.1) refl
int_again end text (negsuc n) rest h = rw (h.0.spelled, h.0.kind, magnitude_again end h.0.first h.0.bytes rest n h.0.means h.1) refl

pub reads_int : IsReadingOf int_at IsInt
reads_int = record { takes = int_takes; again = int_again }

-- ---- strings

string_takes : (kind : Major) (end : ℕ) (bytes value rest : List ℕ) → string_at kind end bytes ≡ Ok (value, rest)
    → Takes (IsString kind) bytes value rest
unfolding string_at
string_takes kind end bytes value rest e =
    let at : ℕ = place end bytes in
    let b = bind_ok (argument_of kind end bytes) (λ x. after_string at x.0 x.1 >>= λ left. Ok (take x.0 x.1, left)) (value, rest) e in
    let s = bind_ok (after_string at b.0.0 b.0.1) (λ left. Ok (take b.0.0 b.0.1, left)) (value, rest) b.2 in
    let g = guard_ok (ltb (length b.0.1) b.0.0) (Truncated at) (drop b.0.0 b.0.1) s.0 s.1 in
    let t = argument_of-takes kind end bytes b.0.0 b.0.1 b.1 in
    let same = ok_is (take b.0.0 b.0.1, s.0) (value, rest) s.2 in
    let len : length (take b.0.0 b.0.1) ≡ b.0.0 = omega (arith, length-take b.0.0 b.0.1, ltb-false (length b.0.1) b.0.0 g.0) in
    let split : b.0.1 ≡ take b.0.0 b.0.1 ++ s.0 = sym (take-append-drop b.0.0 b.0.1) ∙ ap (λ (xs : List ℕ). take b.0.0 b.0.1 ++ xs) g.1 in
    let head : IsHead t.text kind (length (take b.0.0 b.0.1)) = subst (λ (n : ℕ). IsHead t.text kind n) (sym len) t.is_text in
    subst (λ (x : List ℕ × List ℕ). Takes (IsString kind) bytes x.0 x.1) same
    (record {
      text = t.text ++ take b.0.0 b.0.1;
      is_text = (t.text, head, refl);
      parts = t.parts ∙ ap (λ (xs : List ℕ). t.text ++ xs) split ∙ sym (append_assoc t.text (take b.0.0 b.0.1) s.0);
    })

string_at-again : (kind : Major) (end : ℕ) (text value rest : List ℕ) → IsString kind text value
    → string_at kind end (text ++ rest) ≡ Ok (value, rest)
unfolding string_at
string_at-again kind end text value rest h =
    let whole : text ++ rest ≡ h.0 ++ (value ++ rest) = ap (λ (xs : List ℕ). xs ++ rest) h.2 ∙ append_assoc h.0 value rest in
    let at : ℕ = place end (h.0 ++ (value ++ rest)) in
    rw (whole, argument_of-again kind end h.0 (length value) (value ++ rest) h.1, string_again at (length value) value rest refl, take_at value rest (length value) refl) refl

pub reads_string : (kind : Major) → IsReadingOf (string_at kind) (IsString kind)
reads_string kind = record { takes = string_takes kind; again = string_at-again kind }

-- ---- null

argument_of_null : (end : ℕ) (bytes : List ℕ) → argument_of Simple end (0xf6 ∷ bytes) ≡ Ok (22, bytes)
unfolding argument_of argument_at argument_by
argument_of_null end bytes = refl

null_takes : (end : ℕ) (bytes : List ℕ) (value : Unit {0}) (rest : List ℕ) → null_at end bytes ≡ Ok (value, rest) → Takes IsNull bytes value rest
unfolding null_at
null_takes end [] value rest e = absurd cc
null_takes end (first ∷ bytes) value rest e =
    let wrong : Result (Unit {0} × List ℕ) ItemFault = Err (Kind (place end (first ∷ bytes))) in
    let b = bind_ok (argument_of Simple end (first ∷ bytes)) (λ x. cond (eqb first 0xf6) (Ok (tt, x.1)) wrong) (value, rest) e in
    elim (chosen (eqb first 0xf6) (Ok (tt, b.0.1)) wrong (Ok (value, rest)) b.2) [
      | inl p ↦
          let is : first ≡ 0xf6 = eqb-true _ _ p.0 in
          let known : argument_of Simple end (first ∷ bytes) ≡ Ok (22, bytes) = rw is (argument_of_null end bytes) in
          let left : bytes ≡ b.0.1 = ap (λ (x : ℕ × List ℕ). x.1) (ok_is {A = ℕ × List ℕ} (22, bytes) b.0 (sym known ∙ b.1)) in
          let same : b.0.1 ≡ rest = ap (λ (x : Unit {0} × List ℕ). x.1) (ok_is {A = Unit {0} × List ℕ} (tt, b.0.1) (value, rest) p.1) in
          record { text = 0xf6 ∷ []; is_text = refl; parts = rw (is, left, same) refl }
      | inr p ↦ absurd cc
    ]

null_again : (end : ℕ) (text : List ℕ) (value : Unit {0}) (rest : List ℕ) → IsNull text value → null_at end (text ++ rest) ≡ Ok (value, rest)
unfolding null_at
null_again end text value rest h = rw (h, argument_of_null end rest) refl

pub reads_null : IsReadingOf null_at IsNull
reads_null = record { takes = null_takes; again = null_again }

-- ---- items of every kind

skip_takes : (end : ℕ) (bytes : List ℕ) (value : Unit {0}) (rest : List ℕ) → skip_at end bytes ≡ Ok (value, rest) → Takes IsSkipped bytes value rest
unfolding skip_at
skip_takes end bytes value rest e =
    let b = bind_ok (after_item max_depth end bytes) (λ left. Ok (tt, left)) (value, rest) e in
    let p = item_passes max_depth end bytes b.0 b.1 in
    let same : b.0 ≡ rest = ap (λ (x : Unit {0} × List ℕ). x.1) (ok_is (tt, b.0) (value, rest) b.2) in
    record { text = p.text; is_text = p.is_text; parts = p.parts ∙ ap (λ (xs : List ℕ). p.text ++ xs) same }

skip_again : (end : ℕ) (text : List ℕ) (value : Unit {0}) (rest : List ℕ) → IsSkipped text value → skip_at end (text ++ rest) ≡ Ok (value, rest)
unfolding skip_at
skip_again end text value rest h = rw (item_again max_depth end text rest h) refl

pub reads_skipped : IsReadingOf skip_at IsSkipped
reads_skipped = record { takes = skip_takes; again = skip_again }
