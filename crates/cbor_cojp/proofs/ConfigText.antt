-- A written configuration fits.
use Rattle.std.proofs.Common.{◌≡◌, ℕ, zero, suc, ◌+◌, ◌*◌, ◌^◌, ◌<◌, ◌≤◌, cond, List, [], ◌∷◌, ◌++◌, length, take, get_or, All, Option, Some, None, ap, subst, ◌∙◌, length-append, inl, inr, arith, lit<, lit≤}
use Rattle.std.specs.Prelude.{IfSome, is_some}
use Rattle.std.specs.List.{flat_map, sum_by}
use Rattle.std.specs.Int.{w16, to_be_bytes}
use Rattle.std.proofs.lemmas.List.Sums.{sum_by-le}
use Rattle.std.proofs.lemmas.Bool.{cases_eq, eq-eqb, ne_eqb}
use Rattle.cbor_item.specs.declared.head.Major.TheVariants.{Unsigned, Bytes, Array}
use Rattle.cbor_item.specs.Head.{IsHead}
use Rattle.cbor_item.proofs.Spelled.{most1, most2, most5, head_spells}
use Rattle.cbor_cojp.specs.declared.key.LinkKey.{LinkKey}
use Rattle.cbor_cojp.specs.declared.config.Short.{Short}
use Rattle.cbor_cojp.specs.declared.config.Configuration.{Configuration}
use Rattle.cbor_cojp.specs.Config.{max32}
use Rattle.cbor_cojp.specs.Spelling.{capacity, most_config, if_any, if_some, number, string, array, map, usage_text, key_text, key_items, keys_text, hours_text, short_text, jrc_text, refused_text, rate_text, config_count, config_fields, config_text, IsSizedKey, IsWritable}
use Rattle.cbor_cojp.proofs.JoinText.{tiny_number, tiny_map}

module _ {A : Type 0} (f : A → List ℕ) where
  part_len : (xs : List A) (i : ℕ) (d : A) → i < length xs → length (flat_map f (take i xs)) + length (f (get_or xs i d)) ≤ length (flat_map f xs)
  part_len [] i d lt = absurd (omega arith)
  part_len (x ∷ xs) zero d lt = rw (length-append (f x) (flat_map f xs)) (omega arith)
  part_len (x ∷ xs) (suc i) d lt =
      rw (length-append (f x) (flat_map f (take i xs)), length-append (f x) (flat_map f xs)) (omega (arith, part_len xs i d (omega arith)))

  -- where one of the texts doesn't fit, all of them don't
  pub stops : (xs : List A) (old now : List ℕ) (i : ℕ) (d : A) → i < length xs → now ≡ old ++ flat_map f (take i xs)
      → capacity < length now + length (f (get_or xs i d)) → capacity < length old + length (flat_map f xs)
  stops xs old now i d lt is past =
      let whole : length now ≡ length old + length (flat_map f (take i xs)) = ap length is ∙ length-append old (flat_map f (take i xs)) in
      omega (arith, part_len xs i d lt, whole, past)

  -- ---- lengths

  flat_len : (b : ℕ) (xs : List A) → All (λ x. length (f x) ≤ b) xs → length (flat_map f xs) ≤ length xs * b
  flat_len b [] h = omega arith
  flat_len b (x ∷ xs) h =
      let first : length (f x) ≤ b = h 0 x (omega arith) in
      let others : length (flat_map f xs) ≤ length xs * b = flat_len b xs (λ k d lt. h (suc k) d (omega arith)) in
      rw (length-append (f x) (flat_map f xs)) (omega (arith, first, others))

pub array_is : (n : ℕ) → n < 2 ^ 64 → IsHead (array n) Array n
unfolding array
array_is n fits = (head_spells Array n fits).says

tiny_array : (n : ℕ) → n < 24 → length (array n) ≤ 1
unfolding array
tiny_array n lt = most1 Array n lt

short_array : (n : ℕ) → n < 256 → length (array n) ≤ 2
unfolding array
short_array n lt = most2 Array n lt

short_number : (n : ℕ) → n < 256 → length (number n) ≤ 2
unfolding number
short_number n lt = most2 Unsigned n lt

number32 : (n : ℕ) → n ≤ max32 → length (number n) ≤ 5
unfolding number
number32 n le = most5 Unsigned n (omega (arith, le))

tiny_string : (value : List ℕ) → length value < 24 → length (string value) ≤ 1 + length value
unfolding string
tiny_string value lt = rw (length-append) (omega (arith, most1 Bytes (length value) lt))

usage_len : (usage : ℕ) → usage ≤ 14 → length (usage_text usage) ≤ 1
usage_len usage le =
    elim (cases_eq usage 0) [
      | inl none ↦ rw (eq-eqb usage 0 none) (lit≤ tt)
      | inr some ↦ rw (ne_eqb usage 0 some) (tiny_number usage (omega arith))
    ]

key_len : (key : LinkKey) → IsSizedKey key → key.usage ≤ 14 → length (key_text key) ≤ 20
key_len key h le =
    let value : length (string key.value) ≤ 1 + length key.value = tiny_string key.value (omega (arith, h.value)) in
    rw (length-append (number key.id) (usage_text key.usage ++ string key.value), length-append (usage_text key.usage) (string key.value))
    (omega (arith, short_number key.id h.id, usage_len key.usage le, value, h.value))

-- what is known of a configuration that is written
pub record IsKnown (config : Configuration) : Type 0 where
  pub writable : IsWritable config
  pub keys : All IsSizedKey config.keys.items
  pub refused : All (λ id. length id ≡ 8) config.refused.items
  pub jrc : IfSome config.jrc (λ v. length v ≡ 16)
  pub hours : IfSome config.short (λ s. IfSome s.hours (λ hours. hours ≤ max32))
  pub rate : IfSome config.rate (λ n. n ≤ max32)
  pub most_keys : length config.keys.items ≤ 8
  pub most_refused : length config.refused.items ≤ 16

pub known_from : (config : Configuration) → IsWritable config → (keys : List LinkKey) → keys ≡ config.keys.items → All IsSizedKey keys → length keys ≤ 8
    → All (λ id. length id ≡ 8) config.refused.items → IfSome config.jrc (λ v. length v ≡ 16)
    → IfSome config.short (λ s. IfSome s.hours (λ hours. hours ≤ max32)) → IfSome config.rate (λ n. n ≤ max32)
    → length config.refused.items ≤ 16 → IsKnown config
known_from config writable keys same sized most refused jrc hours rate most_refused = record {
  writable = writable;
  keys = subst (λ (xs : List LinkKey). All IsSizedKey xs) same sized;
  refused = refused;
  jrc = jrc;
  hours = hours;
  rate = rate;
  most_keys = subst (λ (xs : List LinkKey). length xs ≤ 8) same most;
  most_refused = most_refused;
}

items_most : (key : LinkKey) → key_items key ≤ 3
items_most key =
    elim (cases_eq key.usage 0) [ inl none ↦ rw (eq-eqb key.usage 0 none) (lit≤ tt) | inr some ↦ rw (ne_eqb key.usage 0 some) (lit≤ tt) ]

keys_len : (keys : List LinkKey) → All (λ key. (1 ≤ key.id) × (key.usage ≤ 14)) keys → All IsSizedKey keys → length keys ≤ 8 → length (keys_text keys) ≤ 163
keys_len [] w h most = lit≤ tt
keys_len (key ∷ keys) w h most =
    let all : length (flat_map key_text (key ∷ keys)) ≤ length (key ∷ keys) * 20 =
    flat_len key_text 20 (key ∷ keys) (λ k d lt. key_len (get_or (key ∷ keys) k d) (h k d lt) (w k d lt).1) in
    let items : ℕ = sum_by key_items (key ∷ keys) in
    let few : items ≤ length (key ∷ keys) * 3 = sum_by-le key_items 3 (key ∷ keys) (λ k d lt. items_most (get_or (key ∷ keys) k d)) in
    let small : items < 256 = omega (arith, few, most) in
    rw (length-append (number 2) (array items ++ flat_map key_text (key ∷ keys)), length-append (array items) (flat_map key_text (key ∷ keys)))
    (omega (arith, tiny_number 2 (lit< tt), short_array items small, all, most))

hours_len : (hours : Option ℕ) → IfSome hours (λ n. n ≤ max32) → length (hours_text hours) ≤ 5
hours_len None h = lit≤ tt
hours_len (Some hours) h = number32 hours h

items_tiny : (hours : Option ℕ) → cond (is_some hours) 2 1 < 24
items_tiny None = lit< tt
items_tiny (Some hours) = lit< tt

short_len : (short : Option Short) → IfSome short (λ s. IfSome s.hours (λ n. n ≤ max32)) → length (short_text short) ≤ 10
short_len None h = lit≤ tt
short_len (Some short) h =
    let items : ℕ = cond (is_some short.hours) 2 1 in
    let address : List ℕ = to_be_bytes w16 short.address in
    rw (length-append (number 3) (array items ++ (string address ++ hours_text short.hours)), length-append (array items) (string address ++ hours_text short.hours), length-append (string address) (hours_text short.hours))
    (omega (arith, tiny_number 3 (lit< tt), tiny_array items (items_tiny short.hours), tiny_string address (lit< tt), hours_len short.hours h))

jrc_len : (jrc : Option (List ℕ)) → IfSome jrc (λ v. length v ≡ 16) → length (jrc_text jrc) ≤ 18
jrc_len None h = lit≤ tt
jrc_len (Some v) h =
    let value : length (string v) ≤ 1 + length v = tiny_string v (omega (arith, h)) in
    rw (length-append (number 4) (string v)) (omega (arith, tiny_number 4 (lit< tt), value, h))

refused_len : (ids : List (List ℕ)) → All (λ id. length id ≡ 8) ids → length ids ≤ 16 → length (refused_text ids) ≤ 146
refused_len [] h most = lit≤ tt
refused_len (id ∷ ids) h most =
    let one : (k : ℕ) (d : List ℕ) → k < length (id ∷ ids) → length (string (get_or (id ∷ ids) k d)) ≤ 9 =
    λ k d lt. (let is : length (get_or (id ∷ ids) k d) ≡ 8 = h k d lt in omega (arith, tiny_string (get_or (id ∷ ids) k d) (omega (arith, is)), is)) in
    let all : length (flat_map string (id ∷ ids)) ≤ length (id ∷ ids) * 9 = flat_len string 9 (id ∷ ids) one in
    let n : ℕ = length (id ∷ ids) in
    rw (length-append (number 6) (array n ++ flat_map string (id ∷ ids)), length-append (array n) (flat_map string (id ∷ ids)))
    (omega (arith, tiny_number 6 (lit< tt), tiny_array n (omega (arith, most)), all, most))

rate_len : (rate : Option ℕ) → IfSome rate (λ n. n ≤ max32) → length (rate_text rate) ≤ 6
rate_len None h = lit≤ tt
rate_len (Some rate) h = rw (length-append (number 7) (number rate)) (omega (arith, tiny_number 7 (lit< tt), number32 rate h))

any_most : {A : Type 0} (xs : List A) → if_any xs ≤ 1
any_most [] = lit≤ tt
any_most (x ∷ xs) = lit≤ tt

some_most : {A : Type 0} (o : Option A) → if_some o ≤ 1
some_most None = lit≤ tt
some_most (Some x) = lit≤ tt

pub config_len : (config : Configuration) → IsKnown config → length (config_text config) ≤ most_config
config_len config h =
    let k = config.keys.items in
    let r = config.refused.items in
    let last = refused_text r ++ rate_text config.rate in
    let middle = jrc_text config.jrc ++ last in
    let count : config_count config < 24 = omega (arith, any_most k, some_most config.short, some_most config.jrc, any_most r, some_most config.rate) in
    rw (
      length-append (map (config_count config)) (config_fields config),
      length-append (keys_text k) (short_text config.short ++ middle),
      length-append (short_text config.short) middle,
      length-append (jrc_text config.jrc) last,
      length-append (refused_text r) (rate_text config.rate),
    )
    (omega (
      arith,
      tiny_map (config_count config) count,
      keys_len k h.writable.keys h.keys h.most_keys,
      short_len config.short h.hours,
      jrc_len config.jrc h.jrc,
      refused_len r h.refused h.most_refused,
      rate_len config.rate h.rate,
    ))
