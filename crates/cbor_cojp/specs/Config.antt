-- The Configuration (RFC 9031, 8.4.2).
use Rattle.std.specs.Prelude.{◌≡◌, ◌≢◌, ℕ, ◌≤◌, ℤ, pos, negsuc, List, [], ◌∷◌, ◌++◌, Option, Some, None, is_some, unwrap_or, option_map, Result, Ok, Err, nat_le, ◌==◌, ◌&&◌, if◌then◌else◌}
use Rattle.std.specs.Int.{w16, from_be_bytes}
use Rattle.cbor_item.specs.declared.head.Major.TheVariants.{Unsigned, Array}
use Rattle.cbor_item.specs.Reading.{IsInt, IsSkipped, int_at, skip_at}
use Rattle.cbor_cojp.specs.declared.fault.CojpFault.{CojpFault}
use Rattle.cbor_cojp.specs.declared.fault.CojpFault.TheVariants.{Repeated, Malformed}
use Rattle.cbor_cojp.specs.declared.key.LinkKey.{LinkKey}
use Rattle.cbor_cojp.specs.declared.config.Short.{Short}
use Rattle.cbor_cojp.specs.declared.config.Configuration.{Configuration}
use Rattle.cbor_cojp.specs.declared.config.Fields.{Fields}
use Rattle.cbor_cojp.specs.Fault.{◌>>=◌, form}
use Rattle.cbor_cojp.specs.Grammar.{Then, Times, IsObject, times_at, object_at}
use Rattle.cbor_cojp.specs.Values.{IsBounded, IsSized, bounded_at, sized_at}
use Rattle.cbor_cojp.specs.Key.{IsKeySet, key_set_at}

-- what the fields said so far
pub record ConfigFields : Type 0 where
  pub keys : Option (List LinkKey)
  pub short : Option Short
  pub jrc : Option (List ℕ)
  pub refused : Option (List (List ℕ))
  pub rate : Option ℕ

abbrev pub fields_view : Fields → ConfigFields
fields_view f = record {
  keys = option_map (λ v. v.items) f.keys;
  short = f.short;
  jrc = f.jrc;
  refused = option_map (λ v. v.items) f.refused;
  rate = f.rate;
}

abbrev pub no_fields : ConfigFields
no_fields = record { keys = None; short = None; jrc = None; refused = None; rate = None }

-- no keys, or no refused pledges, where the label is absent
abbrev pub config_of : ConfigFields → Configuration
config_of said = record {
  keys = record { items = unwrap_or said.keys [] };
  short = said.short;
  jrc = said.jrc;
  refused = record { items = unwrap_or said.refused [] };
  rate = said.rate;
}

pub data ConfigLabel : Type 0 where
  Keys : ConfigLabel
  Address : ConfigLabel
  Jrc : ConfigLabel
  Refused : ConfigLabel
  Rate : ConfigLabel
  Other : ConfigLabel

abbrev pub label_of : ℤ → ConfigLabel
label_of (pos n) =
    if n == 2 then Keys
    else (if n == 3 then Address
    else (if n == 4 then Jrc
    else (if n == 6 then Refused
    else (if n == 7 then Rate else Other))))
label_of (negsuc n) = Other

-- the greatest number of 32 bits
abbrev pub max32 : ℕ
max32 = 4294967295

-- two bytes, most significant first, which say 0x0001 to 0xFFFD
abbrev pub IsAddress : List ℕ → ℕ → Type 0
IsAddress text address =
    (v : List ℕ) × IsSized 2 text v × (address ≡ from_be_bytes w16 v) × (1 ≤ address) × (address ≤ 65533)

-- the lease time is in an array of two items
abbrev pub IsHours : ℕ → List ℕ → Option ℕ → Type 0
IsHours items text None = (items ≢ 2) × (text ≡ [])
IsHours items text (Some hours) = (items ≡ 2) × IsBounded Unsigned 0 max32 text hours

-- an array of the address and, where the lease has an end, its time
pub record IsShort (text : List ℕ) (short : Short) : Type 0 where
  pub items : ℕ
  pub head : List ℕ
  pub address : List ℕ
  pub hours : List ℕ
  pub parts : text ≡ head ++ (address ++ hours)
  pub begins : IsBounded Array 1 2 head items
  pub is_address : IsAddress address short.address
  pub is_hours : IsHours items hours short.hours

abbrev pub AddsRefused : List (List ℕ) → List ℕ → List (List ℕ) → Type 0
AddsRefused before text after = (id : List ℕ) × IsSized 8 text id × (after ≡ before ++ id ∷ [])

-- an array of at most 16 identifiers of 8 bytes
abbrev pub AreRefused : List ℕ → List (List ℕ) → Type 0
AreRefused text ids = Then (IsBounded Array 0 16) (λ n. Times AddsRefused n []) text ids

-- The value of a label. A known label is new, and its value is what the field says.
abbrev pub IsConfigValue : ConfigLabel → ConfigFields → List ℕ → ConfigFields → Type 0
IsConfigValue Keys before text after =
    (v : List LinkKey) × (before.keys ≡ None) × IsKeySet text v × (after ≡ record before { keys = Some v })
IsConfigValue Address before text after =
    (v : Short) × (before.short ≡ None) × IsShort text v × (after ≡ record before { short = Some v })
IsConfigValue Jrc before text after =
    (v : List ℕ) × (before.jrc ≡ None) × IsSized 16 text v × (after ≡ record before { jrc = Some v })
IsConfigValue Refused before text after =
    (v : List (List ℕ)) × (before.refused ≡ None) × AreRefused text v × (after ≡ record before { refused = Some v })
IsConfigValue Rate before text after =
    (v : ℕ) × (before.rate ≡ None) × IsBounded Unsigned 0 max32 text v × (after ≡ record before { rate = Some v })
IsConfigValue Other before text after = IsSkipped text tt × (after ≡ before)

-- a label and its value
abbrev pub IsConfigField : ConfigFields → List ℕ → ConfigFields → Type 0
IsConfigField before text after = Then IsInt (λ z. IsConfigValue (label_of z) before) text after

-- The bytes are the configuration: one map and nothing after it.
abbrev pub IsConfig : List ℕ → Configuration → Type 0
IsConfig bytes config = (said : ConfigFields) × IsObject IsConfigField no_fields bytes said × (config ≡ config_of said)

-- ---- reading from the left

abbrev pub address_in : List ℕ → List ℕ → Result (ℕ × List ℕ) CojpFault
address_in v bytes =
    if nat_le 1 (from_be_bytes w16 v) && nat_le (from_be_bytes w16 v) 65533 then Ok (from_be_bytes w16 v, bytes)
    else Err (Malformed 3)

-- the address is judged after its two bytes
unfoldable pub address_at : ℕ → List ℕ → Result (ℕ × List ℕ) CojpFault
address_at end bytes = sized_at 3 2 end bytes >>= λ x. address_in x.0 x.1

unfoldable pub hours_at : ℕ → ℕ → List ℕ → Result (Option ℕ × List ℕ) CojpFault
hours_at items end bytes =
    if items == 2 then bounded_at 3 Unsigned 0 max32 end bytes >>= (λ x. Ok (Some x.0, x.1)) else Ok (None, bytes)

unfoldable pub short_at : ℕ → List ℕ → Result (Short × List ℕ) CojpFault
short_at end bytes = do
  items ← bounded_at 3 Array 1 2 end bytes
  address ← address_at end items.1
  hours ← hours_at items.0 end address.1
  Ok (record { address = address.0; hours = hours.0 }, hours.1)

unfoldable pub refused_at : List (List ℕ) → ℕ → List ℕ → Result (List (List ℕ) × List ℕ) CojpFault
refused_at before end bytes = sized_at 6 8 end bytes >>= λ x. Ok (before ++ x.0 ∷ [], x.1)

unfoldable pub all_refused_at : ℕ → List ℕ → Result (List (List ℕ) × List ℕ) CojpFault
all_refused_at end bytes = do
  n ← bounded_at 6 Array 0 16 end bytes
  times_at refused_at n.0 [] end n.1

abbrev pub config_value_at : ConfigLabel → ConfigFields → ℕ → List ℕ → Result (ConfigFields × List ℕ) CojpFault
config_value_at Keys before end bytes =
    if is_some before.keys then Err (Repeated 2)
    else key_set_at end bytes >>= λ x. Ok (record before { keys = Some x.0 }, x.1)
config_value_at Address before end bytes =
    if is_some before.short then Err (Repeated 3)
    else short_at end bytes >>= λ x. Ok (record before { short = Some x.0 }, x.1)
config_value_at Jrc before end bytes =
    if is_some before.jrc then Err (Repeated 4)
    else sized_at 4 16 end bytes >>= λ x. Ok (record before { jrc = Some x.0 }, x.1)
config_value_at Refused before end bytes =
    if is_some before.refused then Err (Repeated 6)
    else all_refused_at end bytes >>= λ x. Ok (record before { refused = Some x.0 }, x.1)
config_value_at Rate before end bytes =
    if is_some before.rate then Err (Repeated 7)
    else bounded_at 7 Unsigned 0 max32 end bytes >>= λ x. Ok (record before { rate = Some x.0 }, x.1)
config_value_at Other before end bytes = form (skip_at end bytes) >>= λ x. Ok (before, x.1)

unfoldable pub config_field_at : ConfigFields → ℕ → List ℕ → Result (ConfigFields × List ℕ) CojpFault
config_field_at before end bytes = do
  label ← form (int_at end bytes)
  config_value_at (label_of label.0) before end label.1

unfoldable pub config_at : ℕ → List ℕ → Result Configuration CojpFault
config_at end bytes = do
  said ← object_at config_field_at no_fields end bytes
  Ok (config_of said)
