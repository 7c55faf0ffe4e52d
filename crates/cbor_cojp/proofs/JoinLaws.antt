-- What bytes that follow can change of a Join_Request.
use Rattle.std.proofs.Common.{◌≡◌, ℕ, ◌/◌, ◌%◌, true, cond, eqb, leb, List, [], ◌∷◌, ◌++◌, Some, Ok, Err, refl, inl, inr, lit<, lit≤}
use Rattle.std.specs.Prelude.{ℤ, pos, is_some, ◌&&◌}
use Rattle.cbor_item.specs.declared.fault.ItemFault.TheVariants.{Truncated}
use Rattle.cbor_item.specs.declared.head.Major.TheVariants.{Unsigned, Bytes, Array, Map}
use Rattle.cbor_item.specs.Head.{IsHead, argument_of}
use Rattle.cbor_item.specs.Reading.{IsInt, IsString, IsSkipped, int_at, string_at, skip_at}
use Rattle.cbor_item.specs.Laws.{IsBegun}
use Rattle.cbor_item.proofs.Calls.{reads_argument, reads_int}
use Rattle.cbor_item.proofs.Steady.{begun, head_zero, zero_is, zero_bytes, steady_head, steady_int, steady_string, steady_skipped, argument_of-cut, int_cut, skip_zero}
use Rattle.cbor_cojp.specs.declared.fault.CojpFault.TheVariants.{Form, Malformed}
use Rattle.cbor_cojp.specs.Fault.{◌>>=◌, form, within}
use Rattle.cbor_cojp.specs.Grammar.{Then, Times, times_at, object_at}
use Rattle.cbor_cojp.specs.Join.{Join, JoinFields, JoinLabel, Role, Network, Unsupported, Other, no_fields, join_of, label_of, IsTriple, IsTripleCount, IsUnsupported, IsJoinValue, IsJoinField, IsJoin, triple_at, unsupported_at, join_value_at, join_field_at, join_at}
use Rattle.cbor_cojp.specs.Laws.{Lasts, JoinCompletes}
use Rattle.cbor_cojp.proofs.Reading.{none_from, reads_form, reads_within}
use Rattle.cbor_cojp.proofs.Joins.{int_within, reads_triple, test_to, join_field}
use Rattle.cbor_cojp.proofs.Steady.{Steady, Never, Any, Filled, bind_err, begun_as, steady_form, steady_within, steady_then, steady_made, steady_if, steady_once, steady_as, steady_times, times_fill, object_lasts, object_completes}

-- a label of which nothing counts is completed as 0, which no object knows
abbrev pub IsZero : ℤ → Type 0
IsZero z = z ≡ pos 0

int_completes : (end : ℕ) (bytes : List ℕ) (at : ℕ) → int_at end bytes ≡ Err (Truncated at) → IsBegun (λ text. (z : ℤ) × IsInt text z × IsZero z) end bytes at
int_completes end bytes at e =
    begun (λ text. (z : ℤ) × IsInt text z × IsZero z) end bytes at (head_zero Unsigned) (int_cut end bytes at e) (zero_bytes Unsigned)
    (pos 0, (zero_is Unsigned, lit< tt), refl)

pub steady_label : Steady Never IsZero (λ end bytes. form (int_at end bytes)) IsInt
steady_label = steady_form IsZero int_at IsInt steady_int int_completes

int_any : (end : ℕ) (bytes : List ℕ) (at : ℕ) → int_at end bytes ≡ Err (Truncated at) → IsBegun (λ text. (z : ℤ) × IsInt text z × Any z) end bytes at
int_any end bytes at e =
    begun (λ text. (z : ℤ) × IsInt text z × Any z) end bytes at (head_zero Unsigned) (int_cut end bytes at e) (zero_bytes Unsigned)
    (pos 0, (zero_is Unsigned, lit< tt), tt)

skip_any : (end : ℕ) (bytes : List ℕ) (at : ℕ) → skip_at end bytes ≡ Err (Truncated at) → IsBegun (λ text. (v : Unit {0}) × IsSkipped text v × Any v) end bytes at
skip_any end bytes at e =
    begun_as (λ text. (v : Unit {0}) × IsSkipped text v) (λ text. (v : Unit {0}) × IsSkipped text v × Any v) end bytes at
    (λ text v. (v.0, v.1, tt)) (steady_skipped.completes end bytes at e)

pub steady_other : Steady Never Any (λ end bytes. form (skip_at end bytes)) IsSkipped
steady_other = steady_form Any skip_at IsSkipped steady_skipped skip_any

-- ---- triples

abbrev item_zero : List ℕ
item_zero = head_zero Unsigned

skip_fill : Filled IsSkipped Any
skip_fill = (item_zero, zero_bytes Unsigned, (tt, skip_zero, tt))

label_fill : Filled (Then IsInt (λ label. IsSkipped)) Any
label_fill = (item_zero ++ item_zero, (lit< tt, (lit< tt, tt)), (tt, (pos 0, item_zero, item_zero, refl, (zero_is Unsigned, lit< tt), skip_zero), tt))

triple_fill : Filled IsTriple Any
unfolding label_fill
triple_fill =
    (item_zero ++ (item_zero ++ item_zero), (lit< tt, (lit< tt, (lit< tt, tt))), (tt, (pos 0, item_zero, item_zero ++ item_zero, refl, (zero_is Unsigned, lit< tt), label_fill.2.1), tt))

steady_int8 : Steady Never Any (λ end bytes. within 8 (int_at end bytes)) IsInt
steady_int8 = steady_within Any int_at IsInt steady_int int_any 8

steady_skip8 : Steady Never Any (λ end bytes. within 8 (skip_at end bytes)) IsSkipped
steady_skip8 = steady_within Any skip_at IsSkipped steady_skipped skip_any 8

steady_triple : Steady Never Any triple_at IsTriple
unfolding triple_at
steady_triple =
    steady_then (λ end bytes. within 8 (int_at end bytes)) IsInt
    (λ code end bytes. within 8 (int_at end bytes) >>= λ label. within 8 (skip_at end label.1)) (λ code. Then IsInt (λ label. IsSkipped))
    Never Never (λ code. Never) Any Any int_within steady_int8
    (λ code. steady_then (λ end bytes. within 8 (int_at end bytes)) IsInt (λ label end bytes. within 8 (skip_at end bytes)) (λ label. IsSkipped)
    Never Never (λ label. Never) Any Any int_within steady_int8 (λ label. steady_skip8) (λ label any. skip_fill) (λ end bytes at none. none) (λ label end front rest at is none. none))
    (λ code any. label_fill) (λ end bytes at none. none) (λ code end front rest at is none. none)

steady_triples : (n : ℕ) → Steady Never Any (times_at (λ before. triple_at) n tt) (Times (λ before. IsTriple) n tt)
steady_triples n =
    steady_times (λ before. triple_at) (λ before. IsTriple) (λ before. Never) (λ before. Never) (λ before. reads_triple) (λ before. steady_triple) (λ before. triple_fill)
    (λ before end bytes at none. none) (λ before after end front rest at is none. none) n tt

-- an array that is cut is completed as one of three
abbrev IsThree : ℕ → Type 0
IsThree n = n ≡ 3

array_completes : (end : ℕ) (bytes : List ℕ) (at : ℕ) → argument_of Array end bytes ≡ Err (Truncated at) → IsBegun (λ text. (n : ℕ) × IsHead text Array n × IsThree n) end bytes at
array_completes end bytes at e =
    begun (λ text. (n : ℕ) × IsHead text Array n × IsThree n) end bytes at (0x83 ∷ []) (argument_of-cut Array end bytes at e) (lit< tt, tt)
    (3, record { first = 0x83; bytes = []; spelled = refl; kind = refl; means = inl (lit< tt, refl, refl) }, refl)

three_fill : (n : ℕ) → IsThree n → Filled (λ rest end. IsTripleCount n × Times (λ before. IsTriple) (n / 3) tt rest end) Any
three_fill n is =
    let t = times_fill (λ before. triple_at) (λ before. IsTriple) (λ before. Never) (λ before. Never) (λ before. reads_triple) (λ before. steady_triple) (λ before. triple_fill)
    (λ before end bytes at none. none) (λ before after end front rest at is none. none) (n / 3) tt in
    (t.0, t.1, (t.2.0, ((rw is refl, rw is (lit≤ tt)), t.2.1), tt))

steady_unsupported : Steady Never Any unsupported_at IsUnsupported
unfolding unsupported_at
steady_unsupported =
    steady_then (λ end bytes. within 8 (argument_of Array end bytes)) (λ head n. IsHead head Array n)
    (λ n end bytes. cond (eqb (n % 3) 0 && leb 3 n) (times_at (λ before. triple_at) (n / 3) tt end bytes) (Err (Malformed 8)))
    (λ n rest end. IsTripleCount n × Times (λ before. IsTriple) (n / 3) tt rest end)
    Never Never (λ n. Never) IsThree Any
    (reads_within (argument_of Array) (λ head n. IsHead head Array n) (reads_argument Array) 8)
    (steady_within IsThree (argument_of Array) (λ head n. IsHead head Array n) (steady_head Array) array_completes 8)
    (λ n. steady_if Never (times_at (λ before. triple_at) (n / 3) tt) (Times (λ before. IsTriple) (n / 3) tt) (steady_triples (n / 3))
    (eqb (n % 3) 0 && leb 3 n) (IsTripleCount n) 8 (test_to n))
    three_fill (λ end bytes at none. none) (λ n end front rest at is none. none)

-- ---- fields

role_any : (end : ℕ) (bytes : List ℕ) (at : ℕ) → argument_of Unsigned end bytes ≡ Err (Truncated at) → IsBegun (λ text. (n : ℕ) × IsHead text Unsigned n × Any n) end bytes at
role_any end bytes at e =
    begun (λ text. (n : ℕ) × IsHead text Unsigned n × Any n) end bytes at (head_zero Unsigned) (argument_of-cut Unsigned end bytes at e) (zero_bytes Unsigned)
    (0, zero_is Unsigned, tt)

network_any : (end : ℕ) (bytes : List ℕ) (at : ℕ) → string_at Bytes end bytes ≡ Err (Truncated at) → IsBegun (λ text. (v : List ℕ) × IsString Bytes text v × Any v) end bytes at
network_any end bytes at e =
    begun_as (λ text. (v : List ℕ) × IsString Bytes text v) (λ text. (v : List ℕ) × IsString Bytes text v × Any v) end bytes at
    (λ text v. (v.0, v.1, tt)) ((steady_string Bytes).completes end bytes at e)

steady_value : (label : JoinLabel) (before : JoinFields) → Steady Never Any (join_value_at label before) (IsJoinValue label before)
steady_value Role before =
    steady_once Never (λ end bytes. ◌>>=◌ {B = JoinFields × List ℕ} (within 1 (argument_of Unsigned end bytes)) (λ x. Ok (record before { role = Some x.0 }, x.1)))
    (λ text after. (n : ℕ) × IsHead text Unsigned n × (after ≡ record before { role = Some n })) (IsJoinValue Role before)
    (steady_made Never (λ end bytes. within 1 (argument_of Unsigned end bytes)) (λ text n. IsHead text Unsigned n) (λ n. record before { role = Some n })
    (steady_within Any (argument_of Unsigned) (λ text n. IsHead text Unsigned n) (steady_head Unsigned) role_any 1))
    (is_some before.role) 1 (λ text after new h. (h.0, none_from before.role new, h.1, h.2))
steady_value Network before =
    steady_once Never (λ end bytes. ◌>>=◌ {B = JoinFields × List ℕ} (within 5 (string_at Bytes end bytes)) (λ x. Ok (record before { network = Some x.0 }, x.1)))
    (λ text after. (v : List ℕ) × IsString Bytes text v × (after ≡ record before { network = Some v })) (IsJoinValue Network before)
    (steady_made Never (λ end bytes. within 5 (string_at Bytes end bytes)) (IsString Bytes) (λ v. record before { network = Some v })
    (steady_within Any (string_at Bytes) (IsString Bytes) (steady_string Bytes) network_any 5))
    (is_some before.network) 5 (λ text after new h. (h.0, none_from before.network new, h.1, h.2))
steady_value Unsupported before =
    steady_once Never (λ end bytes. ◌>>=◌ {B = JoinFields × List ℕ} (unsupported_at end bytes) (λ x. Ok (record before { unsupported = true }, x.1)))
    (λ text after. (x : Unit {0}) × IsUnsupported text x × (after ≡ record before { unsupported = true })) (IsJoinValue Unsupported before)
    (steady_made Never unsupported_at IsUnsupported (λ x. record before { unsupported = true }) steady_unsupported)
    before.unsupported 8 (λ text after new h. (new, h.1, h.2))
steady_value Other before =
    steady_as Never (join_value_at Other before) (λ text after. (x : Unit {0}) × IsSkipped text x × (after ≡ before)) (IsJoinValue Other before)
    (steady_made Never (λ end bytes. form (skip_at end bytes)) IsSkipped (λ x. before) steady_other) (λ text after h. (h.1, h.2))

other_fill : (before : JoinFields) (z : ℤ) → IsZero z → Filled (IsJoinValue (label_of z) before) Any
other_fill before z is = rw is (item_zero, zero_bytes Unsigned, (before, (skip_zero, refl), tt))

steady_field : (before : JoinFields) → Steady Never Any (join_field_at before) (IsJoinField before)
unfolding join_field_at
steady_field before =
    steady_then (λ end bytes. form (int_at end bytes)) IsInt (λ z. join_value_at (label_of z) before) (λ z. IsJoinValue (label_of z) before)
    Never Never (λ z. Never) IsZero Any (reads_form int_at IsInt reads_int) steady_label (λ z. steady_value (label_of z) before)
    (other_fill before) (λ end bytes at none. none) (λ z end front rest at is none. none)

field_fill : (before : JoinFields) → Filled (IsJoinField before) Any
field_fill before =
    (item_zero ++ item_zero, (lit< tt, (lit< tt, tt)), (before, (pos 0, item_zero, item_zero, refl, (zero_is Unsigned, lit< tt), (skip_zero, refl)), tt))

fields : (n : ℕ) (before : JoinFields) → Steady Never Any (times_at join_field_at n before) (Times IsJoinField n before)
fields =
    steady_times join_field_at IsJoinField (λ before. Never) (λ before. Never) join_field steady_field field_fill
    (λ before end bytes at none. none) (λ before after end front rest at is none. none)

pub join_lasts : Lasts join_at
unfolding join_at
join_lasts end bytes more f l e =
    elim (bind_err (object_at join_field_at no_fields end bytes) (λ said. Ok (join_of said)) f e) [
      | inl h ↦ rw (object_lasts join_field_at IsJoinField no_fields (λ before. Never) fields end bytes more f l h) refl
      | inr h ↦ absurd cc
    ]

pub join_completes : JoinCompletes
unfolding join_at
join_completes end bytes at e =
    elim (bind_err (object_at join_field_at no_fields end bytes) (λ said. Ok (join_of said)) (Form (Truncated at)) e) [
      | inl h ↦
          elim (object_completes join_field_at IsJoinField no_fields (λ before. Never) fields end bytes at h) [
            | inl b ↦
                begun_as (λ text. (said : JoinFields) × Then (λ head n. IsHead head Map n) (λ n. Times IsJoinField n no_fields) text said) (λ text. (join : Join) × IsJoin text join) end bytes at
                (λ text s. (join_of s.0, (s.0, s.1, refl))) b
            | inr o ↦ absurd o.5
          ]
      | inr h ↦ absurd cc
    ]
