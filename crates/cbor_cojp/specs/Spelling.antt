-- The one way in which an object is written: shortest heads, labels in ascending order, nothing that its absence says.
use Rattle.std.specs.Prelude.{◌≡◌, ℕ, ◌+◌, ◌<◌, ◌≤◌, List, [], ◌∷◌, ◌++◌, length, Option, Some, None, All, IfSome, is_some, Result, Ok, Err, ◌==◌, if◌then◌else◌}
use Rattle.std.specs.List.{flat_map, sum_by}
use Rattle.std.specs.Int.{w16, to_be_bytes}
use Rattle.cbor_item.specs.declared.fault.Full.{Full}
use Rattle.cbor_item.specs.declared.head.Major.TheVariants.{Unsigned, Bytes, Array, Map}
use Rattle.cbor_item.specs.Head.{head_text}
use Rattle.cbor_item.specs.Spelling.{string_text}
use Rattle.cbor_cojp.specs.declared.key.LinkKey.{LinkKey}
use Rattle.cbor_cojp.specs.declared.config.Short.{Short}
use Rattle.cbor_cojp.specs.declared.config.Configuration.{Configuration}
use Rattle.cbor_cojp.specs.Join.{Join}

-- the capacity of a written object
abbrev pub capacity : ℕ
capacity = 512

-- how long a written object is at most: a request whose network has 400 bytes at most, and a configuration
abbrev pub most_join : ℕ
most_join = 415

abbrev pub most_config : ℕ
most_config = 344

-- The text is appended, or it doesn't fit.
abbrev pub Puts : List ℕ → List ℕ → List ℕ → Result (Unit {0}) Full → Type 0
Puts text old new (Ok done) = new ≡ old ++ text
Puts text old new (Err full) = capacity < length old + length text

-- ---- items, each with the shortest head

unfoldable pub number : ℕ → List ℕ
number n = head_text Unsigned n

unfoldable pub string : List ℕ → List ℕ
string value = string_text Bytes value

unfoldable pub array : ℕ → List ℕ
array count = head_text Array count

unfoldable pub map : ℕ → List ℕ
map count = head_text Map count

-- ---- requests

abbrev pub role_text : ℕ → List ℕ
role_text role = if role == 0 then [] else number 1 ++ number role

abbrev pub network_text : Option (List ℕ) → List ℕ
network_text None = []
network_text (Some network) = number 5 ++ string network

abbrev pub join_count : Join → ℕ
join_count join = (if join.role == 0 then 0 else 1) + (if is_some join.network then 1 else 0)

abbrev pub join_text : Join → List ℕ
join_text join = map (join_count join) ++ (role_text join.role ++ network_text join.network)

-- ---- configurations

abbrev pub usage_text : ℕ → List ℕ
usage_text usage = if usage == 0 then [] else number usage

abbrev pub key_text : LinkKey → List ℕ
key_text key = number key.id ++ (usage_text key.usage ++ string key.value)

abbrev pub key_items : LinkKey → ℕ
key_items key = if key.usage == 0 then 2 else 3

abbrev pub keys_text : List LinkKey → List ℕ
keys_text [] = []
keys_text (key ∷ keys) = number 2 ++ (array (sum_by key_items (key ∷ keys)) ++ flat_map key_text (key ∷ keys))

abbrev pub hours_text : Option ℕ → List ℕ
hours_text None = []
hours_text (Some hours) = number hours

abbrev pub short_text : Option Short → List ℕ
short_text None = []
short_text (Some short) =
    number 3 ++ (array (if is_some short.hours then 2 else 1) ++ (string (to_be_bytes w16 short.address) ++ hours_text short.hours))

abbrev pub jrc_text : Option (List ℕ) → List ℕ
jrc_text None = []
jrc_text (Some jrc) = number 4 ++ string jrc

abbrev pub refused_text : List (List ℕ) → List ℕ
refused_text [] = []
refused_text (id ∷ ids) = number 6 ++ (array (length (id ∷ ids)) ++ flat_map string (id ∷ ids))

abbrev pub rate_text : Option ℕ → List ℕ
rate_text None = []
rate_text (Some rate) = number 7 ++ number rate

-- 1 for a list with items, 0 for an empty one
abbrev pub if_any : {A : Type 0} → List A → ℕ
if_any [] = 0
if_any (x ∷ xs) = 1

abbrev pub if_some : {A : Type 0} → Option A → ℕ
if_some o = if is_some o then 1 else 0

abbrev pub config_count : Configuration → ℕ
config_count config =
    if_any config.keys.items + (if_some config.short + (if_some config.jrc + (if_any config.refused.items + if_some config.rate)))

abbrev pub config_fields : Configuration → List ℕ
config_fields config =
    keys_text config.keys.items ++ (short_text config.short
    ++ (jrc_text config.jrc ++ (refused_text config.refused.items ++ rate_text config.rate)))

abbrev pub config_text : Configuration → List ℕ
config_text config = map (config_count config) ++ config_fields config

-- a key of 16 bytes with an id of one byte
pub record IsSizedKey (key : LinkKey) : Type 0 where
  pub value : length key.value ≡ 16
  pub id : key.id < 256

-- values that a Configuration can say
pub record IsWritable (config : Configuration) : Type 0 where
  pub keys : All (λ key. (1 ≤ key.id) × (key.usage ≤ 14)) config.keys.items
  pub short : IfSome config.short (λ s. (1 ≤ s.address) × (s.address ≤ 65533))
