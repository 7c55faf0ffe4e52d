-- Values of known labels.
use Rattle.std.proofs.Common.{◌≡◌, ℕ, cond, eqb, leb, List, ◌++◌, length, Result, Ok, Err, refl, sym, ap, subst, ◌∙◌, append_assoc}
use Rattle.std.specs.Prelude.{◌&&◌}
use Rattle.cbor_item.specs.declared.fault.ItemFault.{ItemFault}
use Rattle.std.proofs.lemmas.Bool.{eqb-true, eq-eqb, leb-true, le-leb, and_parts}
use Rattle.cbor_item.specs.declared.head.Major.{Major}
use Rattle.cbor_item.specs.declared.head.Major.TheVariants.{Bytes}
use Rattle.cbor_item.specs.Head.{IsHead, argument_of}
use Rattle.cbor_item.specs.Reading.{IsString, string_at, length_at}
use Rattle.cbor_item.proofs.Heads.{Takes, argument_of-again}
use Rattle.cbor_item.proofs.Calls.{reads_argument, reads_string}
use Rattle.cbor_cojp.specs.declared.fault.CojpFault.{CojpFault}
use Rattle.cbor_cojp.specs.declared.fault.CojpFault.TheVariants.{Malformed}
use Rattle.cbor_cojp.specs.Fault.{within}
use Rattle.cbor_cojp.specs.Values.{IsBounded, IsSized, bounded_at, sized_at}
use Rattle.cbor_cojp.proofs.Reading.{IsReadingOf, ok_is, bind_ok, guard_on, reads_within, within_ok}

module _ (label : ℕ) (major : Major) (low high : ℕ) where
  head_within : IsReadingOf (λ end bytes. within label (argument_of major end bytes)) (λ text n. IsHead text major n)
  head_within = reads_within (argument_of major) (λ text n. IsHead text major n) (reads_argument major) label

  bounded_takes : (end : ℕ) (bytes : List ℕ) (n : ℕ) (rest : List ℕ) → bounded_at label major low high end bytes ≡ Ok (n, rest)
      → Takes (IsBounded major low high) bytes n rest
  unfolding bounded_at
  bounded_takes end bytes n rest e =
      let b = bind_ok (within label (argument_of major end bytes)) (λ x. cond (leb low x.0 && leb x.0 high) (Ok x) (Err (Malformed label))) (n, rest) e in
      let g = guard_on (leb low b.0.0 && leb b.0.0 high) (Ok b.0) (Malformed label) (n, rest) b.2 in
      let p = and_parts (leb low b.0.0) (leb b.0.0 high) g.0 in
      let t = head_within.takes end bytes b.0.0 b.0.1 b.1 in
      subst (λ (x : ℕ × List ℕ). Takes (IsBounded major low high) bytes x.0 x.1) (ok_is b.0 (n, rest) g.1)
      (record { text = t.text; is_text = (t.is_text, leb-true _ _ p.0, leb-true _ _ p.1); parts = t.parts })

  pub reads_bounded : IsReadingOf (bounded_at label major low high) (IsBounded major low high)
  unfolding bounded_at
  reads_bounded = record {
    takes = bounded_takes;
    again = λ end text n rest h. rw (head_within.again end text n rest h.0, le-leb low n h.1, le-leb n high h.2) refl;
  }

-- the length in a string's head
length_at-string : (end : ℕ) (text value rest : List ℕ) → IsString Bytes text value → length_at Bytes end (text ++ rest) ≡ Ok (length value)
length_at-string end text value rest h =
    let whole : text ++ rest ≡ h.0 ++ (value ++ rest) = ap (λ (xs : List ℕ). xs ++ rest) h.2 ∙ append_assoc h.0 value rest in
    rw (whole, argument_of-again Bytes end h.0 (length value) (value ++ rest) h.1) refl

abbrev known : ℕ → Result ℕ ItemFault
known n = Ok n

known_is : (m n : ℕ) → known m ≡ known n → m ≡ n
known_is m n e = cc

-- a string has the length that its head says
pub string_len : (end n : ℕ) (bytes value rest : List ℕ) → length_at Bytes end bytes ≡ Ok n → string_at Bytes end bytes ≡ Ok (value, rest) → length value ≡ n
string_len end n bytes value rest l e =
    let t = (reads_string Bytes).takes end bytes value rest e in
    known_is (length value) n (sym (length_at-string end t.text value rest t.is_text) ∙ ap (length_at Bytes end) (sym t.parts) ∙ l)

module _ (label len : ℕ) where
  string_within : IsReadingOf (λ end bytes. within label (string_at Bytes end bytes)) (IsString Bytes)
  string_within = reads_within (string_at Bytes) (IsString Bytes) (reads_string Bytes) label

  sized_takes : (end : ℕ) (bytes value rest : List ℕ) → sized_at label len end bytes ≡ Ok (value, rest) → Takes (IsSized len) bytes value rest
  unfolding sized_at
  sized_takes end bytes value rest e =
      let read : Result (List ℕ × List ℕ) CojpFault = within label (string_at Bytes end bytes) in
      let b = bind_ok (within label (length_at Bytes end bytes)) (λ n. cond (eqb n len) read (Err (Malformed label))) (value, rest) e in
      let g = guard_on (eqb b.0 len) read (Malformed label) (value, rest) b.2 in
      let t = string_within.takes end bytes value rest g.1 in
      let same : length value ≡ b.0 =
      string_len end b.0 bytes value rest (within_ok label (length_at Bytes end bytes) b.0 b.1) (within_ok label (string_at Bytes end bytes) (value, rest) g.1) in
      record { text = t.text; is_text = (t.is_text, same ∙ eqb-true _ _ g.0); parts = t.parts }

  sized_again : (end : ℕ) (text value rest : List ℕ) → IsSized len text value → sized_at label len end (text ++ rest) ≡ Ok (value, rest)
  unfolding sized_at
  sized_again end text value rest h =
      rw (length_at-string end text value rest h.0, eq-eqb (length value) len h.1) (string_within.again end text value rest h.0)

  pub reads_sized : IsReadingOf (sized_at label len) (IsSized len)
  reads_sized = record { takes = sized_takes; again = sized_again }
