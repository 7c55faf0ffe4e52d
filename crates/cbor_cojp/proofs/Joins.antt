-- Join_Requests.
use Rattle.std.proofs.Common.{◌≡◌, ℕ, ◌/◌, ◌%◌, Bool, true, false, cond, eqb, leb, List, Some, Result, Ok, Err, refl, sym}
use Rattle.std.specs.Prelude.{◌&&◌, IfOk}
use Rattle.std.proofs.lemmas.Bool.{eqb-true, eq-eqb, leb-true, le-leb, and_parts}
use Rattle.cbor_item.specs.declared.head.Major.TheVariants.{Unsigned, Bytes, Array}
use Rattle.cbor_item.specs.Head.{IsHead, argument_of}
use Rattle.cbor_item.specs.Reading.{IsInt, IsString, IsSkipped, int_at, string_at, skip_at}
use Rattle.cbor_item.proofs.Calls.{reads_argument, reads_int, reads_string, reads_skipped}
use Rattle.cbor_cojp.specs.declared.fault.CojpFault.{CojpFault}
use Rattle.cbor_cojp.specs.declared.fault.CojpFault.TheVariants.{Repeated, Malformed}
use Rattle.cbor_cojp.specs.declared.join.JoinRequest.{JoinRequest}
use Rattle.cbor_cojp.specs.Fault.{◌>>=◌, form, within, Gives}
use Rattle.cbor_cojp.specs.Grammar.{Then, Times, times_at, object_at}
use Rattle.cbor_cojp.specs.Join.{Join, view, JoinFields, JoinLabel, Role, Network, Unsupported, Other, no_fields, join_of, label_of, IsTriple, IsTripleCount, IsUnsupported, IsJoinValue, IsJoinField, IsJoin, triple_at, unsupported_at, join_value_at, join_field_at, join_at}
use Rattle.cbor_cojp.proofs.Reading.{IsReadingOf, ok_is, bind_ok, guard_off, reads_form, reads_within, reads_then, reads_made, reads_if, reads_new, reads_as, reads_times, object_takes, object_again}

pub int_within : IsReadingOf (λ end bytes. within 8 (int_at end bytes)) IsInt
int_within = reads_within int_at IsInt reads_int 8

pub skip_within : IsReadingOf (λ end bytes. within 8 (skip_at end bytes)) IsSkipped
skip_within = reads_within skip_at IsSkipped reads_skipped 8

pub reads_triple : IsReadingOf triple_at IsTriple
unfolding triple_at
reads_triple =
    reads_then (λ end bytes. within 8 (int_at end bytes)) IsInt
    (λ code end bytes. within 8 (int_at end bytes) >>= λ label. within 8 (skip_at end label.1)) (λ code. Then IsInt (λ label. IsSkipped))
    int_within
    (λ code. reads_then (λ end bytes. within 8 (int_at end bytes)) IsInt (λ label end bytes. within 8 (skip_at end bytes)) (λ label. IsSkipped)
    int_within (λ label. skip_within))

pub triples : (n : ℕ) → IsReadingOf (times_at (λ before. triple_at) n tt) (Times (λ before. IsTriple) n tt)
triples n = reads_times (λ before. triple_at) (λ before. IsTriple) (λ before. reads_triple) n tt

pub test_to : (n : ℕ) → (eqb (n % 3) 0 && leb 3 n) ≡ true → IsTripleCount n
test_to n e = let p = and_parts (eqb (n % 3) 0) (leb 3 n) e in (eqb-true _ _ p.0, leb-true _ _ p.1)

pub test_from : (n : ℕ) → IsTripleCount n → (eqb (n % 3) 0 && leb 3 n) ≡ true
test_from n h = rw (eq-eqb (n % 3) 0 h.0, le-leb 3 n h.1) refl

pub reads_unsupported : IsReadingOf unsupported_at IsUnsupported
unfolding unsupported_at
reads_unsupported =
    reads_then (λ end bytes. within 8 (argument_of Array end bytes)) (λ head n. IsHead head Array n)
    (λ n end bytes. cond (eqb (n % 3) 0 && leb 3 n) (times_at (λ before. triple_at) (n / 3) tt end bytes) (Err (Malformed 8)))
    (λ n rest end. IsTripleCount n × Times (λ before. IsTriple) (n / 3) tt rest end)
    (reads_within (argument_of Array) (λ head n. IsHead head Array n) (reads_argument Array) 8)
    (λ n. reads_if (times_at (λ before. triple_at) (n / 3) tt) (Times (λ before. IsTriple) (n / 3) tt) (triples (n / 3))
    (eqb (n % 3) 0 && leb 3 n) (IsTripleCount n) (Malformed 8) (test_to n) (test_from n))

-- a flag that wasn't set
new_flag : (flag : Bool) (fault : CojpFault) (after : JoinFields)
    → IsReadingOf (λ end bytes. cond flag (Err fault) (◌>>=◌ {B = JoinFields × List ℕ} (unsupported_at end bytes) (λ x. Ok (after, x.1))))
    (λ text said. (flag ≡ false) × IsUnsupported text tt × (said ≡ after))
new_flag flag fault after = record {
  takes = λ end bytes said rest e.
      let g = guard_off flag fault (◌>>=◌ {B = JoinFields × List ℕ} (unsupported_at end bytes) (λ x. Ok (after, x.1))) (said, rest) e in
      let t = (reads_made unsupported_at IsUnsupported (λ x. after) reads_unsupported).takes end bytes said rest g.1 in
      record { text = t.text; is_text = (g.0, t.is_text.1, t.is_text.2); parts = t.parts };
  again = λ end text said rest h. rw h.0 ((reads_made unsupported_at IsUnsupported (λ x. after) reads_unsupported).again end text said rest (tt, h.1, h.2));
}

join_value : (label : JoinLabel) (before : JoinFields) → IsReadingOf (join_value_at label before) (IsJoinValue label before)
join_value Role before =
    reads_new (λ end bytes. within 1 (argument_of Unsigned end bytes)) (λ text n. IsHead text Unsigned n)
    (reads_within (argument_of Unsigned) (λ text n. IsHead text Unsigned n) (reads_argument Unsigned) 1)
    before.role (Repeated 1) (λ n. record before { role = Some n })
join_value Network before =
    reads_new (λ end bytes. within 5 (string_at Bytes end bytes)) (IsString Bytes)
    (reads_within (string_at Bytes) (IsString Bytes) (reads_string Bytes) 5)
    before.network (Repeated 5) (λ v. record before { network = Some v })
join_value Unsupported before = new_flag before.unsupported (Repeated 8) (record before { unsupported = true })
join_value Other before =
    reads_as (join_value_at Other before) (λ text after. (x : Unit {0}) × IsSkipped text x × (after ≡ before)) (IsJoinValue Other before)
    (reads_made (λ end bytes. form (skip_at end bytes)) IsSkipped (λ x. before) (reads_form skip_at IsSkipped reads_skipped))
    (λ text after h. (h.1, h.2)) (λ text after h. (tt, h.0, h.1))

pub join_field : (before : JoinFields) → IsReadingOf (join_field_at before) (IsJoinField before)
unfolding join_field_at
join_field before =
    reads_then (λ end bytes. form (int_at end bytes)) IsInt (λ z. join_value_at (label_of z) before) (λ z. IsJoinValue (label_of z) before)
    (reads_form int_at IsInt reads_int) (λ z. join_value (label_of z) before)

pub join_takes : (end : ℕ) (bytes : List ℕ) (join : Join) → join_at end bytes ≡ Ok join → IsJoin bytes join
unfolding join_at
join_takes end bytes join e =
    let b = bind_ok (object_at join_field_at no_fields end bytes) (λ said. Ok (join_of said)) join e in
    (b.0, object_takes join_field_at IsJoinField no_fields join_field end bytes b.0 b.1, sym (ok_is (join_of b.0) join b.2))

pub join_again : (end : ℕ) (bytes : List ℕ) (join : Join) → IsJoin bytes join → join_at end bytes ≡ Ok join
unfolding join_at
join_again end bytes join h =
    rw (object_again join_field_at IsJoinField no_fields join_field end bytes h.0 h.1, h.2) refl

pub join_found : (end : ℕ) (bytes : List ℕ) (result : Result JoinRequest CojpFault) → Gives view result (join_at end bytes) → IfOk result (λ join. IsJoin bytes (view join))
join_found end bytes (Ok join) given = join_takes end bytes (view join) given
join_found end bytes (Err fault) given = tt
