-- A written configuration is the configuration.
use Rattle.std.proofs.Common.{◌≡◌, ℕ, zero, suc, ◌+◌, ◌*◌, ◌^◌, ◌<◌, ◌≤◌, Bool, true, false, cond, eqb, List, [], ◌∷◌, ◌++◌, length, All, Option, Some, None, refl, sym, ap, subst, ◌∙◌, append_assoc, inl, inr, arith, lit<, lit≤}
use Rattle.std.specs.Prelude.{pos, IfSome, is_some, unwrap_or}
use Rattle.std.specs.List.{flat_map, sum_by}
use Rattle.std.specs.Int.{w16, to_be_bytes}
use Rattle.std.proofs.lemmas.Bool.{cases_eq, eq-eqb, ne_eqb}
use Rattle.std.proofs.lemmas.List.{append-nil}
use Rattle.std.proofs.lemmas.Nat.{from_be_bytes-to_be_bytes_2}
use Rattle.std.proofs.lemmas.List.Sums.{sum_by-cons}
use Rattle.cbor_item.specs.declared.head.Major.TheVariants.{Unsigned}
use Rattle.cbor_cojp.specs.declared.key.LinkKey.{LinkKey}
use Rattle.cbor_cojp.specs.declared.config.Short.{Short}
use Rattle.cbor_cojp.specs.declared.config.Configuration.{Configuration}
use Rattle.cbor_cojp.specs.Grammar.{Times}
use Rattle.cbor_cojp.specs.Values.{IsBounded}
use Rattle.cbor_cojp.specs.Key.{IsUsage, IsKey, AreKeys, IsKeySet}
use Rattle.cbor_cojp.specs.Config.{ConfigFields, no_fields, max32, IsAddress, IsHours, IsShort, AddsRefused, AreRefused, IsConfigField, IsConfig}
use Rattle.cbor_cojp.specs.Spelling.{number, string, array, map, usage_text, key_text, key_items, keys_text, hours_text, short_text, jrc_text, refused_text, rate_text, if_any, if_some, config_count, config_fields, config_text, IsSizedKey}
use Rattle.cbor_cojp.proofs.JoinText.{number_is, label_is, string_is, map_is, times_one}
use Rattle.cbor_cojp.proofs.ConfigText.{IsKnown, array_is}

-- fields, and then others
times_append : {S : Type 0} (IsField : S → List ℕ → S → Type 0) (k n : ℕ) (before middle after : S) (a b : List ℕ) → Times IsField k before a middle → Times IsField n middle b after
    → Times IsField (k + n) before (a ++ b) after
times_append {S} IsField zero n before middle after a b one others =
    let k : 0 + n ≡ n = omega arith in
    let moved : Times IsField n before b after = subst (λ (s : S). Times IsField n s b after) one.1 others in
    rw (one.0, k) moved
times_append IsField (suc k) n before middle after a b one others =
    let s : suc k + n ≡ suc (k + n) = omega arith in
    rw s (
      one.0,
      one.1,
      one.2 ++ b,
      ap (λ (xs : List ℕ). xs ++ b) one.3 ∙ append_assoc one.1 one.2 b,
      one.4,
      times_append IsField k n one.0 middle after one.2 b one.5 others,
    )

-- ---- keys

bounded_number : (low high n : ℕ) → n < 2 ^ 64 → low ≤ n → n ≤ high → IsBounded Unsigned low high (number n) n
bounded_number low high n fits l h = (number_is n fits, l, h)

usage_items : ℕ → ℕ
usage_items usage = cond (eqb usage 0) 0 1

usage_is : (usage : ℕ) → usage ≤ 14 → IsUsage (usage_text usage) usage (cond (eqb usage 0) 0 1)
usage_is usage le =
    elim (cases_eq usage 0) [
      | inl none ↦ rw (eq-eqb usage 0 none) (inl (refl, none, refl))
      | inr some ↦ rw (ne_eqb usage 0 some) (inr (label_is usage (omega arith), le, refl))
    ]

count_items : (b : Bool) → cond b 2 3 ≡ 2 + cond b 0 1 + 0
count_items true = refl
count_items false = refl

key_is : (key : LinkKey) → IsSizedKey key → (1 ≤ key.id) × (key.usage ≤ 14) → IsKey (key_text key) key (key_items key)
key_is key h w = record {
  id = number key.id;
  usage = usage_text key.usage;
  value = string key.value;
  info = [];
  usage_items = cond (eqb key.usage 0) 0 1;
  info_items = 0;
  parts = ap (λ (xs : List ℕ). number key.id ++ (usage_text key.usage ++ xs)) (sym (append-nil (string key.value)));
  counted = count_items (eqb key.usage 0);
  is_id = bounded_number 1 255 key.id (omega (arith, h.id)) w.0 (omega (arith, h.id));
  is_usage = usage_is key.usage w.1;
  is_value = (string_is key.value (omega (arith, h.value)), h.value);
  is_info = inl (refl, refl);
}

are_keys : (keys : List LinkKey) → All IsSizedKey keys → All (λ key. (1 ≤ key.id) × (key.usage ≤ 14)) keys → AreKeys (flat_map key_text keys) keys (sum_by key_items keys)
are_keys [] h w = (refl, refl)
are_keys (key ∷ keys) h w = (
  key_text key,
  flat_map key_text keys,
  key_items key,
  sum_by key_items keys,
  refl,
  sum_by-cons key_items key keys,
  key_is key (h 0 key (omega arith)) (w 0 key (omega arith)),
  are_keys keys (λ k d lt. h (suc k) d (omega arith)) (λ k d lt. w (suc k) d (omega arith)),
)

items_bound : (b : Bool) → (2 ≤ cond b 2 3) × (cond b 2 3 ≤ 3)
items_bound true = (lit≤ tt, lit≤ tt)
items_bound false = (lit≤ tt, lit≤ tt)

most_items : (keys : List LinkKey) → sum_by key_items keys ≤ length keys * 3
most_items [] = omega arith
most_items (key ∷ keys) =
    let one : key_items key ≤ 3 = (items_bound (eqb key.usage 0)).1 in
    let others : sum_by key_items keys ≤ length keys * 3 = most_items keys in
    let step : key_items key + sum_by key_items keys ≤ 3 + length keys * 3 = omega (arith, one, others) in
    let same : suc (length keys) * 3 ≡ 3 + length keys * 3 = omega arith in
    rw (same, sum_by-cons key_items key keys) step

said_keys : List LinkKey → Option (List LinkKey)
said_keys [] = None
said_keys (key ∷ keys) = Some (key ∷ keys)

module _ (before : ConfigFields) where
  keys_times : (keys : List LinkKey) → All IsSizedKey keys → All (λ key. (1 ≤ key.id) × (key.usage ≤ 14)) keys → length keys ≤ 8 → before.keys ≡ None
      → Times IsConfigField (if_any keys) before (keys_text keys) (record before { keys = said_keys keys })
  unfolding said_keys
  keys_times [] h w most new = (refl, ap (λ (o : Option (List LinkKey)). record before { keys = o }) (sym new))
  keys_times (key ∷ keys) h w most new =
      let all : List LinkKey = key ∷ keys in
      let n : ℕ = sum_by key_items all in
      let first : 2 ≤ key_items key = (items_bound (eqb key.usage 0)).0 in
      let sum : n ≡ key_items key + sum_by key_items keys = sum_by-cons key_items key keys in
      let low : 2 ≤ n = omega (arith, first, sum) in
      let top : n ≤ length all * 3 = most_items all in
      let high : n ≤ 32 = omega (arith, top, most) in
      let set : IsKeySet (array n ++ flat_map key_text all) all = record {
        items = n;
        head = array n;
        body = flat_map key_text all;
        parts = refl;
        begins = (array_is n (omega (arith, high)), low, high);
        follows = are_keys all h w;
        at_most = most;
      } in
      times_one IsConfigField before (record before { keys = Some all }) (keys_text all)
      (pos 2, number 2, array n ++ flat_map key_text all, refl, label_is 2 (lit< tt), (all, new, set, refl))

-- ---- short addresses

hours_is : (hours : Option ℕ) → IfSome hours (λ n. n ≤ max32) → IsHours (cond (is_some hours) 2 1) (hours_text hours) hours
hours_is None h = (λ e. absurd (omega (arith, e)), refl)
hours_is (Some hours) h = (refl, bounded_number 0 max32 hours (omega (arith, h)) (omega arith) h)

items_in_range : (b : Bool) → (cond b 2 1 < 2 ^ 64) × (1 ≤ cond b 2 1) × (cond b 2 1 ≤ 2)
items_in_range true = (lit< tt, lit≤ tt, lit≤ tt)
items_in_range false = (lit< tt, lit≤ tt, lit≤ tt)

address_is : (address : ℕ) → 1 ≤ address → address ≤ 65533 → IsAddress (string (to_be_bytes w16 address)) address
address_is address low high =
    (to_be_bytes w16 address, (string_is (to_be_bytes w16 address) (lit< tt), refl), sym (from_be_bytes-to_be_bytes_2 address (omega arith)), low, high)

module _ (before : ConfigFields) where
  short_times : (short : Option Short) → IfSome short (λ s. (1 ≤ s.address) × (s.address ≤ 65533)) → IfSome short (λ s. IfSome s.hours (λ hours. hours ≤ max32)) → before.short ≡ None
      → Times IsConfigField (if_some short) before (short_text short) (record before { short = short })
  short_times None w h new = (refl, ap (λ (o : Option Short). record before { short = o }) (sym new))
  short_times (Some s) w h new =
      let n : ℕ = cond (is_some s.hours) 2 1 in
      let rest : List ℕ = string (to_be_bytes w16 s.address) ++ hours_text s.hours in
      let range = items_in_range (is_some s.hours) in
      let is : IsShort (array n ++ rest) s = record {
        items = n;
        head = array n;
        address = string (to_be_bytes w16 s.address);
        hours = hours_text s.hours;
        parts = refl;
        begins = (array_is n range.0, range.1, range.2);
        is_address = address_is s.address w.0 w.1;
        is_hours = hours_is s.hours h;
      } in
      times_one IsConfigField before (record before { short = Some s }) (short_text (Some s))
      (pos 3, number 3, array n ++ rest, refl, label_is 3 (lit< tt), (s, new, is, refl))

  jrc_times : (jrc : Option (List ℕ)) → IfSome jrc (λ v. length v ≡ 16) → before.jrc ≡ None
      → Times IsConfigField (if_some jrc) before (jrc_text jrc) (record before { jrc = jrc })
  jrc_times None h new = (refl, ap (λ (o : Option (List ℕ)). record before { jrc = o }) (sym new))
  jrc_times (Some v) h new =
      times_one IsConfigField before (record before { jrc = Some v }) (jrc_text (Some v))
      (pos 4, number 4, string v, refl, label_is 4 (lit< tt), (v, new, (string_is v (omega (arith, h)), h), refl))

  rate_times : (rate : Option ℕ) → IfSome rate (λ n. n ≤ max32) → before.rate ≡ None
      → Times IsConfigField (if_some rate) before (rate_text rate) (record before { rate = rate })
  rate_times None h new = (refl, ap (λ (o : Option ℕ). record before { rate = o }) (sym new))
  rate_times (Some n) h new =
      times_one IsConfigField before (record before { rate = Some n }) (rate_text (Some n))
      (pos 7, number 7, number n, refl, label_is 7 (lit< tt), (n, new, bounded_number 0 max32 n (omega (arith, h)) (omega arith) h, refl))

-- ---- refused pledges

ids_are : (ids before : List (List ℕ)) → All (λ id. length id ≡ 8) ids → Times AddsRefused (length ids) before (flat_map string ids) (before ++ ids)
ids_are [] before h = (refl, append-nil before)
ids_are (id ∷ ids) before h =
    let one : length id ≡ 8 = h 0 id (omega arith) in (
      before ++ id ∷ [],
      string id,
      flat_map string ids,
      refl,
      (id, (string_is id (omega (arith, one)), one), refl),
      subst (λ (all : List (List ℕ)). Times AddsRefused (length ids) (before ++ id ∷ []) (flat_map string ids) all) (append_assoc before (id ∷ []) ids)
          (ids_are ids (before ++ id ∷ []) (λ k d lt. h (suc k) d (omega arith))),
    )

said_ids : List (List ℕ) → Option (List (List ℕ))
said_ids [] = None
said_ids (id ∷ ids) = Some (id ∷ ids)

module _ (before : ConfigFields) where
  refused_times : (ids : List (List ℕ)) → All (λ id. length id ≡ 8) ids → length ids ≤ 16 → before.refused ≡ None
      → Times IsConfigField (if_any ids) before (refused_text ids) (record before { refused = said_ids ids })
  unfolding said_ids
  refused_times [] h most new = (refl, ap (λ (o : Option (List (List ℕ))). record before { refused = o }) (sym new))
  refused_times (id ∷ ids) h most new =
      let all : List (List ℕ) = id ∷ ids in
      let n : ℕ = length all in
      let are : AreRefused (array n ++ flat_map string all) all =
      (n, array n, flat_map string all, refl, (array_is n (omega (arith, most)), omega arith, most), ids_are all [] h) in
      times_one IsConfigField before (record before { refused = Some all }) (refused_text all)
      (pos 6, number 6, array n ++ flat_map string all, refl, label_is 6 (lit< tt), (all, new, are, refl))

keys_back : (keys : List LinkKey) → keys ≡ unwrap_or (said_keys keys) []
unfolding said_keys
keys_back [] = refl
keys_back (key ∷ keys) = refl

ids_back : (ids : List (List ℕ)) → ids ≡ unwrap_or (said_ids ids) []
unfolding said_ids
ids_back [] = refl
ids_back (id ∷ ids) = refl

any_small : {A : Type 0} (xs : List A) → if_any xs ≤ 1
any_small [] = lit≤ tt
any_small (x ∷ xs) = lit≤ tt

some_small : {A : Type 0} (o : Option A) → if_some o ≤ 1
some_small None = lit≤ tt
some_small (Some x) = lit≤ tt

pub config_is : (config : Configuration) → IsKnown config → IsConfig (config_text config) config
config_is config h =
    let keys = config.keys.items in
    let ids = config.refused.items in
    let s1 : ConfigFields = record no_fields { keys = said_keys keys } in
    let s2 : ConfigFields = record s1 { short = config.short } in
    let s3 : ConfigFields = record s2 { jrc = config.jrc } in
    let s4 : ConfigFields = record s3 { refused = said_ids ids } in
    let s5 : ConfigFields = record s4 { rate = config.rate } in
    let t5 = rate_times s4 config.rate h.rate refl in
    let t4 = times_append IsConfigField (if_any ids) (if_some config.rate) s3 s4 s5 (refused_text ids) (rate_text config.rate)
    (refused_times s3 ids h.refused h.most_refused refl) t5 in
    let t3 = times_append IsConfigField (if_some config.jrc) (if_any ids + if_some config.rate) s2 s3 s5 (jrc_text config.jrc) (refused_text ids ++ rate_text config.rate)
    (jrc_times s2 config.jrc h.jrc refl) t4 in
    let t2 = times_append IsConfigField (if_some config.short) (if_some config.jrc + (if_any ids + if_some config.rate)) s1 s2 s5
    (short_text config.short) (jrc_text config.jrc ++ (refused_text ids ++ rate_text config.rate))
    (short_times s1 config.short h.writable.short h.hours refl) t3 in
    let t1 = times_append IsConfigField (if_any keys) (if_some config.short + (if_some config.jrc + (if_any ids + if_some config.rate))) no_fields s1 s5
    (keys_text keys) (short_text config.short ++ (jrc_text config.jrc ++ (refused_text ids ++ rate_text config.rate)))
    (keys_times no_fields keys h.keys h.writable.keys h.most_keys refl) t2 in
    let small : config_count config < 2 ^ 64 =
    omega (arith, any_small keys, any_small ids, some_small config.short, some_small config.jrc, some_small config.rate) in (
      s5,
      (config_count config, map (config_count config), config_fields config, refl, map_is (config_count config) small, t1),
      ap (λ (ks : List LinkKey). record { keys = record { items = ks }; short = config.short; jrc = config.jrc; refused = config.refused; rate = config.rate }) (keys_back keys)
          ∙ ap (λ (xs : List (List ℕ)). record { keys = record { items = unwrap_or (said_keys keys) [] }; short = config.short; jrc = config.jrc; refused = record { items = xs }; rate = config.rate }) (ids_back ids),
    )
