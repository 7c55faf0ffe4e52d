-- A written request fits, and is the request.
use Rattle.std.proofs.Common.{◌≡◌, ℕ, suc, ◌+◌, ◌^◌, ◌<◌, ◌≤◌, Bool, true, false, cond, eqb, List, [], ◌++◌, length, Option, Some, None, refl, sym, ap, length-append, inl, inr, arith, lit<, lit≤}
use Rattle.std.specs.Prelude.{pos, IfSome, is_some, unwrap_or}
use Rattle.std.proofs.lemmas.Bool.{cases_eq, eq-eqb, ne_eqb}
use Rattle.std.proofs.lemmas.List.{append-nil}
use Rattle.cbor_item.specs.declared.head.Major.TheVariants.{Unsigned, Bytes, Map}
use Rattle.cbor_item.specs.Head.{IsHead}
use Rattle.cbor_item.specs.Reading.{IsInt, IsString}
use Rattle.cbor_item.proofs.Spelled.{most1, most3, most9, head_spells, string_spells}
use Rattle.cbor_cojp.specs.Grammar.{Times}
use Rattle.cbor_cojp.specs.Join.{Join, JoinFields, no_fields, IsJoinField, IsJoin}
use Rattle.cbor_cojp.specs.Spelling.{most_join, number, string, map, role_text, network_text, join_count, join_text}

-- ---- items

pub number_is : (n : ℕ) → n < 2 ^ 64 → IsHead (number n) Unsigned n
unfolding number
number_is n fits = (head_spells Unsigned n fits).says

pub label_is : (n : ℕ) → n < 2 ^ 63 → IsInt (number n) (pos n)
label_is n small = (number_is n (omega arith), small)

pub string_is : (value : List ℕ) → length value < 2 ^ 64 → IsString Bytes (string value) value
unfolding string
string_is value fits = (string_spells Bytes value fits).says

pub map_is : (n : ℕ) → n < 2 ^ 64 → IsHead (map n) Map n
unfolding map
map_is n fits = (head_spells Map n fits).says

pub length_number : (n : ℕ) → length (number n) ≤ 9
unfolding number
length_number n = most9 Unsigned n

pub tiny_number : (n : ℕ) → n < 24 → length (number n) ≤ 1
unfolding number
tiny_number n lt = most1 Unsigned n lt

pub tiny_map : (n : ℕ) → n < 24 → length (map n) ≤ 1
unfolding map
tiny_map n lt = most1 Map n lt

length_string : (value : List ℕ) → length value < 2 ^ 16 → length (string value) ≤ 3 + length value
unfolding string
length_string value lt = rw (length-append) (omega (arith, most3 Bytes (length value) lt))

-- ---- fields, the first before the others

module _ {S : Type 0} (IsField : S → List ℕ → S → Type 0) where
  pub times_cons : (n : ℕ) (before middle after : S) (text rest : List ℕ) → IsField before text middle → Times IsField n middle rest after
      → Times IsField (suc n) before (text ++ rest) after
  times_cons n before middle after text rest one others = (middle, text, rest, refl, one, others)

  pub times_one : (before after : S) (text : List ℕ) → IsField before text after → Times IsField 1 before text after
  times_one before after text one = (after, text, [], sym (append-nil text), one, (refl, refl))

-- ---- length

role_len : (role : ℕ) → length (role_text role) ≤ 10
role_len role =
    elim (cases_eq role 0) [
      | inl zero ↦ rw (eq-eqb role 0 zero) (lit≤ tt)
      | inr other ↦ rw (ne_eqb role 0 other, length-append (number 1) (number role)) (omega (arith, tiny_number 1 (lit< tt), length_number role))
    ]

network_len : (network : Option (List ℕ)) → IfSome network (λ v. length v ≤ 400) → length (network_text network) ≤ 404
network_len None h = lit≤ tt
network_len (Some v) h = rw (length-append (number 5) (string v)) (omega (arith, tiny_number 5 (lit< tt), length_string v (omega (arith, h)), h))

count_tiny : (a b : Bool) → cond a 0 1 + cond b 1 0 < 24
count_tiny true true = lit< tt
count_tiny true false = lit< tt
count_tiny false true = lit< tt
count_tiny false false = lit< tt

pub join_len : (join : Join) → IfSome join.network (λ v. length v ≤ 400) → length (join_text join) ≤ most_join
join_len join h =
    rw (length-append (map (join_count join)) (role_text join.role ++ network_text join.network), length-append (role_text join.role) (network_text join.network))
    (omega (arith, tiny_map (join_count join) (count_tiny (eqb join.role 0) (is_some join.network)), role_len join.role, network_len join.network h))

-- ---- meaning

role_field : (before : JoinFields) (role : ℕ) → role < 2 ^ 64 → before.role ≡ None → IsJoinField before (number 1 ++ number role) (record before { role = Some role })
role_field before role fits new = (pos 1, number 1, number role, refl, label_is 1 (lit< tt), (role, new, number_is role fits, refl))

network_field : (before : JoinFields) (v : List ℕ) → length v < 2 ^ 64 → before.network ≡ None → IsJoinField before (number 5 ++ string v) (record before { network = Some v })
network_field before v fits new = (pos 5, number 5, string v, refl, label_is 5 (lit< tt), (v, new, string_is v fits, refl))

network_times : (before : JoinFields) (network : Option (List ℕ)) → IfSome network (λ v. length v ≤ 400) → before.network ≡ None
    → Times IsJoinField (cond (is_some network) 1 0) before (network_text network) (record before { network = network })
network_times before None h new = (refl, ap (λ (o : Option (List ℕ)). record before { network = o }) (sym new))
network_times before (Some v) h new =
    times_one IsJoinField before (record before { network = Some v }) (number 5 ++ string v) (network_field before v (omega arith) new)

abbrev role_of : ℕ → Option ℕ
role_of role = cond (eqb role 0) None (Some role)

abbrev with_role : ℕ → JoinFields
with_role role = record no_fields { role = role_of role }

role_times : (role n : ℕ) (rest : List ℕ) (after : JoinFields) → role < 2 ^ 64 → Times IsJoinField n (with_role role) rest after
    → Times IsJoinField (cond (eqb role 0) 0 1 + n) no_fields (role_text role ++ rest) after
role_times role n rest after fits others =
    elim (cases_eq role 0) [
      | inl zero ↦
          let e = eq-eqb role 0 zero in
          let k : 0 + n ≡ n = omega arith in
          let same : Times IsJoinField n no_fields rest after = rw e at others in
          rw (e, k) same
      | inr other ↦
          let e = ne_eqb role 0 other in
          let k : 1 + n ≡ suc n = omega arith in
          let named : Times IsJoinField n (record no_fields { role = Some role }) rest after = rw e at others in
          rw (e, k) (times_cons IsJoinField n no_fields (record no_fields { role = Some role }) after (number 1 ++ number role) rest (role_field no_fields role fits refl) named)
    ]

count_small : (a b : Bool) → cond a 0 1 + cond b 1 0 < 2 ^ 64
count_small true true = lit< tt
count_small true false = lit< tt
count_small false true = lit< tt
count_small false false = lit< tt

role_back : (role : ℕ) → role ≡ unwrap_or (role_of role) 0
role_back role =
    elim (cases_eq role 0) [
      | inl zero ↦ rw (eq-eqb role 0 zero) zero
      | inr other ↦ rw (ne_eqb role 0 other) refl
    ]

pub join_is : (join : Join) → join.role < 2 ^ 64 → IfSome join.network (λ v. length v ≤ 400) → IsJoin (join_text join) join
join_is join fits h =
    let said : JoinFields = record (with_role join.role) { network = join.network } in
    let fields = role_times join.role (cond (is_some join.network) 1 0) (network_text join.network) said fits
    (network_times (with_role join.role) join.network h refl) in (
      said,
      (
        join_count join,
        map (join_count join),
        role_text join.role ++ network_text join.network,
        refl,
        map_is (join_count join) (count_small (eqb join.role 0) (is_some join.network)),
        fields,
      ),
      ap (λ (r : ℕ). record { role = r; network = join.network }) (role_back join.role),
    )
