-- The Join_Request (RFC 9031, 8.4.1).
use Rattle.std.specs.Prelude.{◌≡◌, ℕ, ◌/◌, ◌%◌, ◌≤◌, ℤ, pos, negsuc, Bool, true, false, List, Option, Some, None, is_some, unwrap_or, Result, Ok, Err, nat_le, ◌==◌, ◌&&◌, if◌then◌else◌, option_map}
use Rattle.cbor_item.specs.declared.head.Major.TheVariants.{Unsigned, Bytes, Array}
use Rattle.cbor_item.specs.Head.{IsHead, argument_of}
use Rattle.cbor_item.specs.Reading.{IsInt, IsString, IsSkipped, int_at, string_at, skip_at}
use Rattle.cbor_cojp.specs.declared.fault.CojpFault.{CojpFault}
use Rattle.cbor_cojp.specs.declared.fault.CojpFault.TheVariants.{Repeated, Malformed}
use Rattle.cbor_cojp.specs.declared.join.JoinRequest.{JoinRequest}
use Rattle.cbor_cojp.specs.declared.join.Fields.{Fields}
use Rattle.cbor_cojp.specs.Fault.{◌>>=◌, form, within}
use Rattle.cbor_cojp.specs.Grammar.{Then, Times, IsObject, times_at, object_at}

-- a request without where it lies in memory
pub record Join : Type 0 where
  pub role : ℕ
  pub network : Option (List ℕ)

abbrev pub view : JoinRequest → Join
view join = record { role = join.role; network = option_map (λ v. v.now) join.network }

-- what the fields said so far
pub record JoinFields : Type 0 where
  pub role : Option ℕ
  pub network : Option (List ℕ)
  pub unsupported : Bool

abbrev pub fields_view : Fields → JoinFields
fields_view f = record { role = f.role; network = option_map (λ v. v.now) f.network; unsupported = f.unsupported }

abbrev pub no_fields : JoinFields
no_fields = record { role = None; network = None; unsupported = false }

-- an absent role is 0
abbrev pub join_of : JoinFields → Join
join_of said = record { role = unwrap_or said.role 0; network = said.network }

pub data JoinLabel : Type 0 where
  Role : JoinLabel
  Network : JoinLabel
  Unsupported : JoinLabel
  Other : JoinLabel

abbrev pub label_of : ℤ → JoinLabel
label_of (pos n) = if n == 1 then Role else (if n == 5 then Network else (if n == 8 then Unsupported else Other))
label_of (negsuc n) = Other

-- a code, a label and any item
abbrev pub IsTriple : List ℕ → Unit {0} → Type 0
IsTriple text done = Then IsInt (λ code. Then IsInt (λ label. IsSkipped)) text done

-- one or more triples that lie flat
abbrev pub IsTripleCount : ℕ → Type 0
IsTripleCount n = (n % 3 ≡ 0) × (3 ≤ n)

-- an array of triples
abbrev pub IsUnsupported : List ℕ → Unit {0} → Type 0
IsUnsupported text done =
    Then (λ head n. IsHead head Array n) (λ n rest end. IsTripleCount n × Times (λ before. IsTriple) (n / 3) tt rest end) text done

-- The value of a label. A known label is new, and its value is what the field says.
abbrev pub IsJoinValue : JoinLabel → JoinFields → List ℕ → JoinFields → Type 0
IsJoinValue Role before text after =
    (n : ℕ) × (before.role ≡ None) × IsHead text Unsigned n × (after ≡ record before { role = Some n })
IsJoinValue Network before text after =
    (v : List ℕ) × (before.network ≡ None) × IsString Bytes text v × (after ≡ record before { network = Some v })
IsJoinValue Unsupported before text after =
    (before.unsupported ≡ false) × IsUnsupported text tt × (after ≡ record before { unsupported = true })
IsJoinValue Other before text after = IsSkipped text tt × (after ≡ before)

-- a label and its value
abbrev pub IsJoinField : JoinFields → List ℕ → JoinFields → Type 0
IsJoinField before text after = Then IsInt (λ z. IsJoinValue (label_of z) before) text after

-- The bytes are the request: one map and nothing after it.
abbrev pub IsJoin : List ℕ → Join → Type 0
IsJoin bytes join = (said : JoinFields) × IsObject IsJoinField no_fields bytes said × (join ≡ join_of said)

-- ---- reading from the left

unfoldable pub triple_at : ℕ → List ℕ → Result (Unit {0} × List ℕ) CojpFault
triple_at end bytes = do
  code ← within 8 (int_at end bytes)
  label ← within 8 (int_at end code.1)
  within 8 (skip_at end label.1)

unfoldable pub unsupported_at : ℕ → List ℕ → Result (Unit {0} × List ℕ) CojpFault
unsupported_at end bytes = do
  n ← within 8 (argument_of Array end bytes)
  if n.0 % 3 == 0 && nat_le 3 n.0 then times_at (λ before. triple_at) (n.0 / 3) tt end n.1 else Err (Malformed 8)

abbrev pub join_value_at : JoinLabel → JoinFields → ℕ → List ℕ → Result (JoinFields × List ℕ) CojpFault
join_value_at Role before end bytes =
    if is_some before.role then Err (Repeated 1)
    else within 1 (argument_of Unsigned end bytes) >>= λ x. Ok (record before { role = Some x.0 }, x.1)
join_value_at Network before end bytes =
    if is_some before.network then Err (Repeated 5)
    else within 5 (string_at Bytes end bytes) >>= λ x. Ok (record before { network = Some x.0 }, x.1)
join_value_at Unsupported before end bytes =
    if before.unsupported then Err (Repeated 8)
    else unsupported_at end bytes >>= λ x. Ok (record before { unsupported = true }, x.1)
join_value_at Other before end bytes = form (skip_at end bytes) >>= λ x. Ok (before, x.1)

unfoldable pub join_field_at : JoinFields → ℕ → List ℕ → Result (JoinFields × List ℕ) CojpFault
join_field_at before end bytes = do
  label ← form (int_at end bytes)
  join_value_at (label_of label.0) before end label.1

unfoldable pub join_at : ℕ → List ℕ → Result Join CojpFault
join_at end bytes = do
  said ← object_at join_field_at no_fields end bytes
  Ok (join_of said)
