-- Configurations.
use Rattle.std.proofs.Common.{◌≡◌, ℕ, ◌≤◌, Bool, eqb, leb, List, [], ◌∷◌, ◌++◌, Option, Some, None, Result, Ok, Err, refl, sym, ap, subst, ◌∙◌, inl, inr}
use Rattle.std.specs.Prelude.{◌&&◌, IfOk}
use Rattle.std.specs.Int.{w16, from_be_bytes}
use Rattle.std.proofs.lemmas.Bool.{eqb-true, eqb-false, eq-eqb, ne_eqb, leb-true, le-leb, and_parts}
use Rattle.cbor_item.specs.declared.head.Major.TheVariants.{Unsigned, Array}
use Rattle.cbor_item.specs.Reading.{IsInt, IsSkipped, int_at, skip_at}
use Rattle.cbor_item.proofs.Heads.{Takes, chosen}
use Rattle.cbor_item.proofs.Calls.{reads_int, reads_skipped}
use Rattle.cbor_cojp.specs.declared.fault.CojpFault.{CojpFault}
use Rattle.cbor_cojp.specs.declared.fault.CojpFault.TheVariants.{Repeated, Malformed}
use Rattle.cbor_cojp.specs.declared.config.Short.{Short}
use Rattle.cbor_cojp.specs.declared.config.Configuration.{Configuration}
use Rattle.cbor_cojp.specs.Fault.{◌>>=◌, form}
use Rattle.cbor_cojp.specs.Grammar.{Then, Times, times_at, object_at}
use Rattle.cbor_cojp.specs.Values.{IsBounded, IsSized, bounded_at, sized_at}
use Rattle.cbor_cojp.specs.Key.{IsKeySet, key_set_at}
use Rattle.cbor_cojp.specs.Config.{ConfigFields, ConfigLabel, Keys, Address, Jrc, Refused, Rate, Other, no_fields, config_of, label_of, max32, IsAddress, IsHours, IsShort, AddsRefused, AreRefused, IsConfigValue, IsConfigField, IsConfig, address_in, address_at, hours_at, short_at, refused_at, all_refused_at, config_value_at, config_field_at, config_at}
use Rattle.cbor_cojp.proofs.Reading.{IsReadingOf, ok_is, bind_ok, guard_on, reads_form, reads_then, reads_made, reads_new, reads_as, reads_times, object_takes, object_again}
use Rattle.cbor_cojp.proofs.Values.{reads_bounded, reads_sized}
use Rattle.cbor_cojp.proofs.Keys.{reads_key_set}

pub refused_more : (end : ℕ) (before : List (List ℕ)) (bytes id rest : List ℕ) → sized_at 6 8 end bytes ≡ Ok (id, rest)
    → refused_at before end bytes ≡ Ok (before ++ id ∷ [], rest)
unfolding refused_at
refused_more end before bytes id rest h = rw h refl

pub refused_fails : (end : ℕ) (before : List (List ℕ)) (bytes : List ℕ) (fault : CojpFault) → sized_at 6 8 end bytes ≡ Err fault
    → refused_at before end bytes ≡ Err fault
unfolding refused_at
refused_fails end before bytes fault h = rw h refl

-- ---- short addresses

in_range : ℕ → Bool
in_range n = leb 1 n && leb n 65533

address_takes : (end : ℕ) (bytes : List ℕ) (n : ℕ) (rest : List ℕ) → address_at end bytes ≡ Ok (n, rest) → Takes IsAddress bytes n rest
unfolding address_at
address_takes end bytes n rest e =
    let b = bind_ok (sized_at 3 2 end bytes) (λ x. address_in x.0 x.1) (n, rest) e in
    let m : ℕ = from_be_bytes w16 b.0.0 in
    let g = guard_on (leb 1 m && leb m 65533) (Ok (m, b.0.1)) (Malformed 3) (n, rest) b.2 in
    let p = and_parts (leb 1 m) (leb m 65533) g.0 in
    let t = (reads_sized 3 2).takes end bytes b.0.0 b.0.1 b.1 in
    subst (λ (x : ℕ × List ℕ). Takes IsAddress bytes x.0 x.1) (ok_is {A = ℕ × List ℕ} (m, b.0.1) (n, rest) g.1)
    (record { text = t.text; is_text = (b.0.0, t.is_text, refl, leb-true _ _ p.0, leb-true _ _ p.1); parts = t.parts })

address_again : (end : ℕ) (text : List ℕ) (n : ℕ) (rest : List ℕ) → IsAddress text n → address_at end (text ++ rest) ≡ Ok (n, rest)
unfolding address_at
address_again end text n rest h =
    let m : ℕ = from_be_bytes w16 h.0 in
    let low : 1 ≤ m = subst (λ (k : ℕ). 1 ≤ k) h.2 h.3 in
    let high : m ≤ 65533 = subst (λ (k : ℕ). k ≤ 65533) h.2 h.4 in
    rw ((reads_sized 3 2).again end text h.0 rest h.1, le-leb 1 m low, le-leb m 65533 high, h.2) refl

pub reads_address : IsReadingOf address_at IsAddress
reads_address = record { takes = address_takes; again = address_again }

abbrev Timed : Type 0
Timed = Option ℕ × List ℕ

hours_take : (items end : ℕ) (bytes : List ℕ) (hours : Option ℕ) (rest : List ℕ) → hours_at items end bytes ≡ Ok (hours, rest) → Takes (IsHours items) bytes hours rest
unfolding hours_at
hours_take items end bytes hours rest e =
    let read : Result Timed CojpFault = ◌>>=◌ {B = Timed} (bounded_at 3 Unsigned 0 max32 end bytes) (λ x. Ok (Some x.0, x.1)) in
    elim (chosen (eqb items 2) read (Ok (None, bytes)) (Ok (hours, rest)) e) [
      | inl p ↦
          let b = bind_ok {B = Timed} (bounded_at 3 Unsigned 0 max32 end bytes) (λ x. Ok (Some x.0, x.1)) (hours, rest) p.1 in
          let t = (reads_bounded 3 Unsigned 0 max32).takes end bytes b.0.0 b.0.1 b.1 in
          subst (λ (x : Timed). Takes (IsHours items) bytes x.0 x.1) (ok_is {A = Timed} (Some b.0.0, b.0.1) (hours, rest) b.2)
          (record { text = t.text; is_text = (eqb-true items 2 p.0, t.is_text); parts = t.parts })
      | inr p ↦
          subst (λ (x : Timed). Takes (IsHours items) bytes x.0 x.1) (ok_is {A = Timed} (None, bytes) (hours, rest) p.1)
          (record { text = []; is_text = (eqb-false items 2 p.0, refl); parts = refl })
    ]

hours_again : (items end : ℕ) (text : List ℕ) (hours : Option ℕ) (rest : List ℕ) → IsHours items text hours → hours_at items end (text ++ rest) ≡ Ok (hours, rest)
unfolding hours_at
hours_again items end text None rest h = rw (h.1, ne_eqb items 2 h.0) refl
hours_again items end text (Some hours) rest h = rw (eq-eqb items 2 h.0, (reads_bounded 3 Unsigned 0 max32).again end text hours rest h.1) refl

pub reads_hours : (items : ℕ) → IsReadingOf (hours_at items) (IsHours items)
reads_hours items = record { takes = hours_take items; again = hours_again items }

-- the parts of a short address, one after the other
abbrev pub Parts : List ℕ → Short → Type 0
Parts =
    Then (IsBounded Array 1 2) (λ items. Then IsAddress (λ address rest s.
    (hours : Option ℕ) × IsHours items rest hours × (s ≡ record { address = address; hours = hours })))

reads_parts : IsReadingOf short_at Parts
unfolding short_at
reads_parts =
    reads_then (bounded_at 3 Array 1 2) (IsBounded Array 1 2)
    (λ items end bytes. address_at end bytes >>= λ a. ◌>>=◌ {B = Short × List ℕ} (hours_at items end a.1) (λ h. Ok (record { address = a.0; hours = h.0 }, h.1)))
    (λ items. Then IsAddress (λ address rest s. (hours : Option ℕ) × IsHours items rest hours × (s ≡ record { address = address; hours = hours })))
    (reads_bounded 3 Array 1 2)
    (λ items. reads_then address_at IsAddress
    (λ address end bytes. ◌>>=◌ {B = Short × List ℕ} (hours_at items end bytes) (λ h. Ok (record { address = address; hours = h.0 }, h.1)))
    (λ address rest s. (hours : Option ℕ) × IsHours items rest hours × (s ≡ record { address = address; hours = hours }))
    reads_address
    (λ address. reads_made (hours_at items) (IsHours items) (λ h. record { address = address; hours = h }) (reads_hours items)))

pub short_from : (text : List ℕ) (short : Short) → Parts text short → IsShort text short
short_from text short h =
    let a = h.5 in
    let made : Short = record { address = a.0; hours = a.5.0 } in
    let is : IsShort text made = record {
      items = h.0;
      head = h.1;
      address = a.1;
      hours = a.2;
      parts = h.3 ∙ ap (λ (xs : List ℕ). h.1 ++ xs) a.3;
      begins = h.4;
      is_address = a.4;
      is_hours = a.5.1;
    } in
    subst (λ (s : Short). IsShort text s) (sym a.5.2) is

short_to : (text : List ℕ) (short : Short) → IsShort text short → Parts text short
short_to text short h =
    (h.items, h.head, h.address ++ h.hours, h.parts, h.begins, (short.address, h.address, h.hours, refl, h.is_address, (short.hours, h.is_hours, refl)))

reads_short : IsReadingOf short_at IsShort
reads_short = reads_as short_at Parts IsShort reads_parts short_from short_to

-- ---- refused pledges

pub reads_one_refused : (before : List (List ℕ)) → IsReadingOf (refused_at before) (AddsRefused before)
unfolding refused_at
reads_one_refused before = reads_made (sized_at 6 8) (IsSized 8) (λ id. before ++ id ∷ []) (reads_sized 6 8)

reads_refused : IsReadingOf all_refused_at AreRefused
unfolding all_refused_at
reads_refused =
    reads_then (bounded_at 6 Array 0 16) (IsBounded Array 0 16) (λ n. times_at refused_at n []) (λ n. Times AddsRefused n [])
    (reads_bounded 6 Array 0 16) (λ n. reads_times refused_at AddsRefused reads_one_refused n [])

-- ---- fields

config_value : (label : ConfigLabel) (before : ConfigFields) → IsReadingOf (config_value_at label before) (IsConfigValue label before)
config_value Keys before = reads_new key_set_at IsKeySet reads_key_set before.keys (Repeated 2) (λ v. record before { keys = Some v })
config_value Address before = reads_new short_at IsShort reads_short before.short (Repeated 3) (λ v. record before { short = Some v })
config_value Jrc before = reads_new (sized_at 4 16) (IsSized 16) (reads_sized 4 16) before.jrc (Repeated 4) (λ v. record before { jrc = Some v })
config_value Refused before = reads_new all_refused_at AreRefused reads_refused before.refused (Repeated 6) (λ v. record before { refused = Some v })
config_value Rate before =
    reads_new (bounded_at 7 Unsigned 0 max32) (IsBounded Unsigned 0 max32) (reads_bounded 7 Unsigned 0 max32) before.rate (Repeated 7) (λ v. record before { rate = Some v })
config_value Other before =
    reads_as (config_value_at Other before) (λ text after. (x : Unit {0}) × IsSkipped text x × (after ≡ before)) (IsConfigValue Other before)
    (reads_made (λ end bytes. form (skip_at end bytes)) IsSkipped (λ x. before) (reads_form skip_at IsSkipped reads_skipped))
    (λ text after h. (h.1, h.2)) (λ text after h. (tt, h.0, h.1))

pub config_field : (before : ConfigFields) → IsReadingOf (config_field_at before) (IsConfigField before)
unfolding config_field_at
config_field before =
    reads_then (λ end bytes. form (int_at end bytes)) IsInt (λ z. config_value_at (label_of z) before) (λ z. IsConfigValue (label_of z) before)
    (reads_form int_at IsInt reads_int) (λ z. config_value (label_of z) before)

config_takes : (end : ℕ) (bytes : List ℕ) (config : Configuration) → config_at end bytes ≡ Ok config → IsConfig bytes config
unfolding config_at
config_takes end bytes config e =
    let b = bind_ok (object_at config_field_at no_fields end bytes) (λ said. Ok (config_of said)) config e in
    (b.0, object_takes config_field_at IsConfigField no_fields config_field end bytes b.0 b.1, sym (ok_is (config_of b.0) config b.2))

pub config_again : (end : ℕ) (bytes : List ℕ) (config : Configuration) → IsConfig bytes config → config_at end bytes ≡ Ok config
unfolding config_at
config_again end bytes config h =
    rw (object_again config_field_at IsConfigField no_fields config_field end bytes h.0 h.1, h.2) refl

pub config_found : (end : ℕ) (bytes : List ℕ) (result : Result Configuration CojpFault) → result ≡ config_at end bytes → IfOk result (IsConfig bytes)
config_found end bytes (Ok config) given = config_takes end bytes config (sym given)
config_found end bytes (Err fault) given = tt
