-- What bytes that follow can change of a Configuration.
use Rattle.std.proofs.Common.{◌≡◌, ◌⊎◌, ℕ, suc, ◌<◌, Bool, true, false, cond, eqb, List, [], ◌∷◌, ◌++◌, Option, Some, None, Result, Ok, Err, refl, sym, ap, subst, ◌∙◌, append_assoc, inl, inr, lit<, lit≤}
use Rattle.std.specs.Prelude.{ℤ, pos, negsuc, is_some}
use Rattle.std.specs.Int.{w16, from_be_bytes}
use Rattle.std.proofs.lemmas.Bool.{cases_eq, eq-eqb, ne_eqb, eqb-true}
use Rattle.cbor_item.specs.declared.fault.ItemFault.TheVariants.{Truncated}
use Rattle.cbor_item.specs.declared.head.Major.TheVariants.{Unsigned, Bytes, Array, Map}
use Rattle.cbor_item.specs.Head.{IsHead}
use Rattle.cbor_item.specs.Reading.{IsInt, IsSkipped, int_at, skip_at}
use Rattle.cbor_item.specs.Laws.{AreBytes, IsBegun}
use Rattle.cbor_item.proofs.Calls.{reads_int}
use Rattle.cbor_item.proofs.Steady.{begun, head_zero, zero_is, zero_bytes, zeros, zeros_bytes, zeros_len, skip_zero}
use Rattle.cbor_cojp.specs.declared.fault.CojpFault.{CojpFault}
use Rattle.cbor_cojp.specs.declared.fault.CojpFault.TheVariants.{Form, Repeated, Malformed}
use Rattle.cbor_cojp.specs.declared.config.Short.{Short}
use Rattle.cbor_cojp.specs.declared.config.Configuration.{Configuration}
use Rattle.cbor_cojp.specs.Fault.{◌>>=◌, form}
use Rattle.cbor_cojp.specs.Grammar.{Then, Times, times_at, object_at}
use Rattle.cbor_cojp.specs.Values.{IsBounded, IsSized, bounded_at, sized_at}
use Rattle.cbor_cojp.specs.Key.{IsKeySet, key_set_at}
use Rattle.cbor_cojp.specs.Config.{ConfigFields, ConfigLabel, Keys, Address, Jrc, Refused, Rate, Other, no_fields, config_of, label_of, max32, IsAddress, IsHours, IsShort, AddsRefused, AreRefused, IsConfigValue, IsConfigField, IsConfig, address_in, address_at, hours_at, short_at, refused_at, all_refused_at, config_value_at, config_field_at, config_at}
use Rattle.cbor_cojp.specs.Laws.{Lasts, ConfigCompletes}
use Rattle.cbor_cojp.proofs.Reading.{none_from, reads_form}
use Rattle.cbor_cojp.proofs.Values.{reads_bounded, reads_sized}
use Rattle.cbor_cojp.proofs.Configs.{Parts, short_from, reads_address, reads_one_refused, config_field}
use Rattle.cbor_cojp.proofs.Steady.{Steady, Never, Any, Filled, bind_err, choice_is, grows, begun_as, steady_bounded, steady_sized, sized_cut, steady_then, steady_made, steady_once, steady_as, steady_times, times_fill, object_lasts, object_completes}
use Rattle.cbor_cojp.proofs.JoinLaws.{IsZero, steady_label, steady_other}
use Rattle.cbor_cojp.proofs.KeyLaws.{key_set_lasts}

-- ---- texts that complete

abbrev item_zero : List ℕ
item_zero = head_zero Unsigned

-- a string of as many zeros
module _ (first len : ℕ) (is : IsHead (first ∷ []) Bytes len) (small : first < 256) where
  abbrev string_zeros : List ℕ
  string_zeros = first ∷ zeros len

  string_bytes : AreBytes string_zeros
  string_bytes = (small, zeros_bytes len)

  string_sized : IsSized len string_zeros (zeros len)
  string_sized = ((first ∷ [], rw (zeros_len len) is, refl), zeros_len len)

  steady_string : (label : ℕ) → Steady Never Any (sized_at label len) (IsSized len)
  steady_string label = steady_sized label len string_zeros (zeros len) string_sized string_bytes

head8 : IsHead (0x48 ∷ []) Bytes 8
head8 = record { first = 0x48; bytes = []; spelled = refl; kind = refl; means = inl (lit< tt, refl, refl) }

head16 : IsHead (0x50 ∷ []) Bytes 16
head16 = record { first = 0x50; bytes = []; spelled = refl; kind = refl; means = inl (lit< tt, refl, refl) }

head2 : IsHead (0x42 ∷ []) Bytes 2
head2 = record { first = 0x42; bytes = []; spelled = refl; kind = refl; means = inl (lit< tt, refl, refl) }

array1 : IsBounded Array 1 2 (0x81 ∷ []) 1
array1 = (record { first = 0x81; bytes = []; spelled = refl; kind = refl; means = inl (lit< tt, refl, refl) }, lit≤ tt, lit≤ tt)

array0 : IsBounded Array 0 16 (0x80 ∷ []) 0
array0 = (record { first = 0x80; bytes = []; spelled = refl; kind = refl; means = inl (lit< tt, refl, refl) }, lit≤ tt, lit≤ tt)

zero32 : IsBounded Unsigned 0 max32 item_zero 0
zero32 = (zero_is Unsigned, lit≤ tt, lit≤ tt)

steady_32 : (label : ℕ) → Steady Never Any (bounded_at label Unsigned 0 max32) (IsBounded Unsigned 0 max32)
steady_32 label = steady_bounded label Unsigned 0 max32 0 item_zero zero32 (zero_bytes Unsigned)

-- ---- short addresses

abbrev least : List ℕ
least = 0x42 ∷ 0 ∷ 1 ∷ []

least_is : IsAddress least 1
least_is = (0 ∷ 1 ∷ [], ((0x42 ∷ [], head2, refl), refl), refl, lit≤ tt, lit≤ tt)

least_bytes : AreBytes least
least_bytes = (lit< tt, (lit< tt, (lit< tt, tt)))

address_lasts : Lasts address_at
unfolding address_at
address_lasts end bytes more f l e =
    let steady = steady_string 0x42 2 head2 (lit< tt) 3 in
    elim (bind_err (sized_at 3 2 end bytes) (λ x. address_in x.0 x.1) f e) [
      | inl h ↦ rw (steady.lasts end bytes more f l h) refl
      | inr h ↦
          let again = grows (sized_at 3 2) (IsSized 2) (reads_sized 3 2) end bytes more h.0.0 h.0.1 h.1 in
          rw again (choice_is _ (Ok (from_be_bytes w16 h.0.0, h.0.1)) (Err (Malformed 3)) f (λ p k. absurd cc) (λ p k. rw p k) h.2)
    ]

address_completes : (end : ℕ) (bytes : List ℕ) (at : ℕ) → address_at end bytes ≡ Err (Form (Truncated at))
    → IsBegun (λ text. (n : ℕ) × IsAddress text n × Any n) end bytes at ⊎ Never end bytes at
unfolding address_at
address_completes end bytes at e =
    elim (bind_err (sized_at 3 2 end bytes) (λ x. address_in x.0 x.1) (Form (Truncated at)) e) [
      | inl h ↦
          inl (begun (λ text. (n : ℕ) × IsAddress text n × Any n) end bytes at least (sized_cut 3 2 end bytes at h) least_bytes (1, least_is, tt))
      | inr h ↦ choice_is _ (Ok (from_be_bytes w16 h.0.0, h.0.1)) (Err (Malformed 3)) (Form (Truncated at)) (λ p k. absurd cc) (λ p k. absurd cc) h.2
    ]

steady_address : Steady Never Any address_at IsAddress
steady_address = record { lasts = address_lasts; completes = address_completes }

hours_fill : (items : ℕ) → Filled (IsHours items) Any
hours_fill items =
    elim (cases_eq items 2) [
      | inl two ↦ (item_zero, zero_bytes Unsigned, (Some 0, (two, zero32), tt))
      | inr other ↦ ([], tt, (None, (other, refl), tt))
    ]

steady_hours : (items : ℕ) → Steady Never Any (hours_at items) (IsHours items)
unfolding hours_at
steady_hours items = record {
  lasts = λ end bytes more f l e.
      choice_is (eqb items 2) (◌>>=◌ {B = Option ℕ × List ℕ} (bounded_at 3 Unsigned 0 max32 end bytes) (λ x. Ok (Some x.0, x.1))) (Ok (None, bytes)) f
      (λ p h. rw p (made.lasts end bytes more f l h)) (λ p h. absurd cc) e;
  completes = λ end bytes at e.
      choice_is (eqb items 2) (◌>>=◌ {B = Option ℕ × List ℕ} (bounded_at 3 Unsigned 0 max32 end bytes) (λ x. Ok (Some x.0, x.1))) (Ok (None, bytes)) (Form (Truncated at))
      (λ p h. elim (made.completes end bytes at h) [
        | inl b ↦
            inl (begun_as (λ text. (y : Option ℕ) × ((n : ℕ) × IsBounded Unsigned 0 max32 text n × (y ≡ Some n)) × Any y) (λ text. (y : Option ℕ) × IsHours items text y × Any y)
            end bytes at (λ text y. (Some y.1.0, (eqb-true items 2 p, y.1.1), tt)) b)
        | inr none ↦ absurd none
      ])
      (λ p h. absurd cc) e;
}
  where
    made : Steady Never Any (λ end bytes. ◌>>=◌ {B = Option ℕ × List ℕ} (bounded_at 3 Unsigned 0 max32 end bytes) (λ x. Ok (Some x.0, x.1)))
        (λ text y. (n : ℕ) × IsBounded Unsigned 0 max32 text n × (y ≡ Some n))
    made = steady_made Never (bounded_at 3 Unsigned 0 max32) (IsBounded Unsigned 0 max32) (λ n. Some n) (steady_32 3)

-- an address and its time
abbrev Timed : ℕ → ℕ → List ℕ → Short → Type 0
Timed items address rest s = (hours : Option ℕ) × IsHours items rest hours × (s ≡ record { address = address; hours = hours })

timed_fill : (items address : ℕ) → Filled (Timed items address) Any
timed_fill items address =
    let h = hours_fill items in
    (h.0, h.1, (record { address = address; hours = h.2.0 }, (h.2.0, h.2.1, refl), tt))

address_fill : (items : ℕ) → Filled (Then IsAddress (Timed items)) Any
address_fill items =
    let h = timed_fill items 1 in
    (least ++ h.0, (lit< tt, (lit< tt, (lit< tt, h.1))), (h.2.0, (1, least, h.0, refl, least_is, h.2.1), tt))

steady_parts : Steady Never Any short_at Parts
unfolding short_at
steady_parts =
    steady_then (bounded_at 3 Array 1 2) (IsBounded Array 1 2)
    (λ items end bytes. address_at end bytes >>= λ a. ◌>>=◌ {B = Short × List ℕ} (hours_at items end a.1) (λ h. Ok (record { address = a.0; hours = h.0 }, h.1)))
    (λ items. Then IsAddress (Timed items)) Never Never (λ items. Never) Any Any
    (reads_bounded 3 Array 1 2) (steady_bounded 3 Array 1 2 1 (0x81 ∷ []) array1 (lit< tt, tt))
    (λ items. steady_then address_at IsAddress
    (λ address end bytes. ◌>>=◌ {B = Short × List ℕ} (hours_at items end bytes) (λ h. Ok (record { address = address; hours = h.0 }, h.1))) (Timed items)
    Never Never (λ address. Never) Any Any reads_address steady_address
    (λ address. steady_made Never (hours_at items) (IsHours items) (λ h. record { address = address; hours = h }) (steady_hours items))
    (λ address any. timed_fill items address) (λ end bytes at none. none) (λ address end front rest at is none. none))
    (λ items any. address_fill items) (λ end bytes at none. none) (λ items end front rest at is none. none)

steady_short : Steady Never Any short_at IsShort
steady_short = steady_as Never short_at Parts IsShort steady_parts short_from

-- ---- refused pledges

steady_one : (before : List (List ℕ)) → Steady Never Any (refused_at before) (AddsRefused before)
unfolding refused_at
steady_one before = steady_made Never (sized_at 6 8) (IsSized 8) (λ id. before ++ id ∷ []) (steady_string 0x48 8 head8 (lit< tt) 6)

one_fill : (before : List (List ℕ)) → Filled (AddsRefused before) Any
one_fill before =
    (string_zeros 0x48 8 head8 (lit< tt), string_bytes 0x48 8 head8 (lit< tt), (before ++ zeros 8 ∷ [], (zeros 8, string_sized 0x48 8 head8 (lit< tt), refl), tt))

steady_refused : Steady Never Any all_refused_at AreRefused
unfolding all_refused_at
steady_refused =
    steady_then (bounded_at 6 Array 0 16) (IsBounded Array 0 16) (λ n. times_at refused_at n []) (λ n. Times AddsRefused n [])
    Never Never (λ n. Never) Any Any (reads_bounded 6 Array 0 16) (steady_bounded 6 Array 0 16 0 (0x80 ∷ []) array0 (lit< tt, tt))
    (λ n. steady_times refused_at AddsRefused (λ before. Never) (λ before. Never) reads_one_refused steady_one one_fill
    (λ before end bytes at none. none) (λ before after end front rest at is none. none) n [])
    (λ n any. times_fill refused_at AddsRefused (λ before. Never) (λ before. Never) reads_one_refused steady_one one_fill
    (λ before end bytes at none. none) (λ before after end front rest at is none. none) n [])
    (λ end bytes at none. none) (λ n end front rest at is none. none)

-- ---- fields

-- what of a key set is cut
abbrev OpenKeys : ℕ → List ℕ → ℕ → Type 0
OpenKeys end bytes at = key_set_at end bytes ≡ Err (Form (Truncated at))

abbrev OpenValue : ConfigLabel → ℕ → List ℕ → ℕ → Type 0
OpenValue Keys = OpenKeys
OpenValue Address = Never
OpenValue Jrc = Never
OpenValue Refused = Never
OpenValue Rate = Never
OpenValue Other = Never

steady_keys : Steady OpenKeys Any key_set_at IsKeySet
steady_keys = record { lasts = key_set_lasts; completes = λ end bytes at e. inr e }

-- the value of a known label
steady_known : {A : Type 0} (Open : ℕ → List ℕ → ℕ → Type 0) (read : ℕ → List ℕ → Result (A × List ℕ) CojpFault) (IsText : List ℕ → A → Type 0)
    → Steady Open Any read IsText → (o : Option A) (label : ℕ) (made : A → ConfigFields)
    → Steady Open Any (λ end bytes. cond (is_some o) (Err (Repeated label)) (◌>>=◌ {B = ConfigFields × List ℕ} (read end bytes) (λ x. Ok (made x.0, x.1))))
    (λ text after. (v : A) × (o ≡ None) × IsText text v × (after ≡ made v))
steady_known {A} Open read IsText steady o label made =
    steady_once Open (λ end bytes. ◌>>=◌ {B = ConfigFields × List ℕ} (read end bytes) (λ x. Ok (made x.0, x.1)))
    (λ text after. (v : A) × IsText text v × (after ≡ made v)) (λ text after. (v : A) × (o ≡ None) × IsText text v × (after ≡ made v))
    (steady_made Open read IsText made steady) (is_some o) label (λ text after new h. (h.0, none_from o new, h.1, h.2))

steady_value : (label : ConfigLabel) (before : ConfigFields) → Steady (OpenValue label) Any (config_value_at label before) (IsConfigValue label before)
steady_value Keys before = steady_known OpenKeys key_set_at IsKeySet steady_keys before.keys 2 (λ v. record before { keys = Some v })
steady_value Address before = steady_known Never short_at IsShort steady_short before.short 3 (λ v. record before { short = Some v })
steady_value Jrc before = steady_known Never (sized_at 4 16) (IsSized 16) (steady_string 0x50 16 head16 (lit< tt) 4) before.jrc 4 (λ v. record before { jrc = Some v })
steady_value Refused before = steady_known Never all_refused_at AreRefused steady_refused before.refused 6 (λ v. record before { refused = Some v })
steady_value Rate before = steady_known Never (bounded_at 7 Unsigned 0 max32) (IsBounded Unsigned 0 max32) (steady_32 7) before.rate 7 (λ v. record before { rate = Some v })
steady_value Other before =
    steady_as Never (config_value_at Other before) (λ text after. (x : Unit {0}) × IsSkipped text x × (after ≡ before)) (IsConfigValue Other before)
    (steady_made Never (λ end bytes. form (skip_at end bytes)) IsSkipped (λ x. before) steady_other) (λ text after h. (h.1, h.2))

-- label 2 and a cut key set
abbrev OpenField : ℕ → List ℕ → ℕ → Type 0
OpenField end bytes at = (label value : List ℕ) × (bytes ≡ label ++ value) × IsInt label (pos 2) × OpenKeys end value at

open_choice : {P : Type 0} (b : Bool) (x y : ConfigLabel) (end : ℕ) (bytes : List ℕ) (at : ℕ) → (OpenValue x end bytes at → P) → (OpenValue y end bytes at → P)
    → OpenValue (cond b x y) end bytes at → P
open_choice true x y end bytes at p q o = p o
open_choice false x y end bytes at p q o = q o

open_keys : (n end : ℕ) (bytes : List ℕ) (at : ℕ) → OpenValue (label_of (pos n)) end bytes at → (n ≡ 2) × OpenKeys end bytes at
open_keys n end bytes at o =
    elim (cases_eq n 2) [
      | inl two ↦ (two, let same = eq-eqb n 2 two in rw same at o)
      | inr other ↦
          let none = ne_eqb n 2 other in
          let rest = rw none at o in
          absurd
          (open_choice (eqb n 3) _ _ end bytes at (λ x. x)
          (open_choice (eqb n 4) _ _ end bytes at (λ x. x)
          (open_choice (eqb n 6) _ _ end bytes at (λ x. x)
          (open_choice (eqb n 7) Rate Other end bytes at (λ x. x) (λ x. x)))) rest)
    ]

open_along : (z : ℤ) (end : ℕ) (front rest : List ℕ) (at : ℕ) → IsInt front z → OpenValue (label_of z) end rest at → OpenField end (front ++ rest) at
open_along (pos n) end front rest at is o =
    let k = open_keys n end rest at o in
    let label : IsInt front (pos 2) = subst (λ (m : ℕ). IsInt front (pos m)) k.0 is in
    (front, rest, refl, label, k.1)
open_along (negsuc n) end front rest at is o = absurd o

other_fill : (before : ConfigFields) (z : ℤ) → IsZero z → Filled (IsConfigValue (label_of z) before) Any
other_fill before z is = rw is (item_zero, zero_bytes Unsigned, (before, (skip_zero, refl), tt))

steady_field : (before : ConfigFields) → Steady OpenField Any (config_field_at before) (IsConfigField before)
unfolding config_field_at
steady_field before =
    steady_then (λ end bytes. form (int_at end bytes)) IsInt (λ z. config_value_at (label_of z) before) (λ z. IsConfigValue (label_of z) before)
    Never OpenField (λ z. OpenValue (label_of z)) IsZero Any (reads_form int_at IsInt reads_int) steady_label (λ z. steady_value (label_of z) before)
    (other_fill before) (λ end bytes at none. absurd none) open_along

field_fill : (before : ConfigFields) → Filled (IsConfigField before) Any
field_fill before =
    (item_zero ++ item_zero, (lit< tt, (lit< tt, tt)), (before, (pos 0, item_zero, item_zero, refl, (zero_is Unsigned, lit< tt), (skip_zero, refl)), tt))

-- some fields, and then label 2 and a cut key set
record OpenFields (before : ConfigFields) (end : ℕ) (bytes : List ℕ) (at : ℕ) : Type 0 where
  count : ℕ
  front : List ℕ
  rest : List ℕ
  said : ConfigFields
  parts : bytes ≡ front ++ rest
  are_fields : Times IsConfigField count before front said
  cut : OpenField end rest at

open_here : (before : ConfigFields) (end : ℕ) (bytes : List ℕ) (at : ℕ) → OpenField end bytes at → OpenFields before end bytes at
open_here before end bytes at o =
    record { count = 0; front = []; rest = bytes; said = before; parts = refl; are_fields = (refl, refl); cut = o }

open_later : (before after : ConfigFields) (end : ℕ) (front rest : List ℕ) (at : ℕ) → IsConfigField before front after → OpenFields after end rest at
    → OpenFields before end (front ++ rest) at
open_later before after end front rest at is o = record {
  count = suc o.count;
  front = front ++ o.front;
  rest = o.rest;
  said = o.said;
  parts = ap (λ (xs : List ℕ). front ++ xs) o.parts ∙ sym (append_assoc front o.front o.rest);
  are_fields = (after, front, o.front, refl, is, o.are_fields);
  cut = o.cut;
}

fields : (n : ℕ) (before : ConfigFields) → Steady (OpenFields before) Any (times_at config_field_at n before) (Times IsConfigField n before)
fields = steady_times config_field_at IsConfigField (λ before. OpenField) OpenFields config_field steady_field field_fill open_here open_later

pub config_lasts : Lasts config_at
unfolding config_at
config_lasts end bytes more f l e =
    elim (bind_err (object_at config_field_at no_fields end bytes) (λ said. Ok (config_of said)) f e) [
      | inl h ↦ rw (object_lasts config_field_at IsConfigField no_fields OpenFields fields end bytes more f l h) refl
      | inr h ↦ absurd cc
    ]

pub config_completes : ConfigCompletes
unfolding config_at
config_completes end bytes at e =
    elim (bind_err (object_at config_field_at no_fields end bytes) (λ said. Ok (config_of said)) (Form (Truncated at)) e) [
      | inl h ↦
          elim (object_completes config_field_at IsConfigField no_fields OpenFields fields end bytes at h) [
            | inl b ↦
                inl (begun_as (λ text. (said : ConfigFields) × Then (λ head n. IsHead head Map n) (λ n. Times IsConfigField n no_fields) text said)
                (λ text. (config : Configuration) × IsConfig text config) end bytes at (λ text s. (config_of s.0, (s.0, s.1, refl))) b)
            | inr o ↦
                inr (record {
                  head = o.0;
                  fields = o.5.front;
                  label = o.5.cut.0;
                  value = o.5.cut.1;
                  count = o.2;
                  before = o.5.count;
                  said = o.5.said;
                  parts = o.3 ∙ ap (λ (xs : List ℕ). o.0 ++ xs) (o.5.parts ∙ ap (λ (xs : List ℕ). o.5.front ++ xs) o.5.cut.2);
                  begins = o.4;
                  are_fields = o.5.are_fields;
                  is_label = o.5.cut.3;
                  cut = o.5.cut.4;
                })
          ]
      | inr h ↦ absurd cc
    ]
