-- Link-layer key sets (RFC 9031, 8.4.3): keys that lie flat in one array.
use Rattle.std.specs.Prelude.{◌≡◌, ◌⊎◌, ℕ, zero, suc, ◌+◌, ◌≤◌, ℤ, pos, negsuc, Bool, false, List, [], ◌∷◌, ◌++◌, length, Result, Ok, Err, nat_le, ◌==◌, ◌||◌, if◌then◌else◌}
use Rattle.cbor_item.specs.declared.fault.ItemFault.TheVariants.{Truncated}
use Rattle.cbor_item.specs.declared.head.Major.{Major}
use Rattle.cbor_item.specs.declared.head.Major.TheVariants.{Unsigned, Negative, Bytes, Array}
use Rattle.cbor_item.specs.Input.{place}
use Rattle.cbor_item.specs.Head.{code_of, major_of}
use Rattle.cbor_item.specs.Reading.{IsInt, IsString, int_at, string_at}
use Rattle.cbor_cojp.specs.declared.fault.CojpFault.{CojpFault}
use Rattle.cbor_cojp.specs.declared.fault.CojpFault.TheVariants.{Form, Malformed}
use Rattle.cbor_cojp.specs.declared.key.LinkKey.{LinkKey}
use Rattle.cbor_cojp.specs.Fault.{◌>>=◌, within}
use Rattle.cbor_cojp.specs.Values.{IsBounded, IsSized, bounded_at, sized_at}

-- a usage of 0 to 14, or no item and the usage 0
abbrev pub IsUsage : List ℕ → ℕ → ℕ → Type 0
IsUsage text usage items = ((text ≡ []) × (usage ≡ 0) × (items ≡ 0)) ⊎ (IsInt text (pos usage) × (usage ≤ 14) × (items ≡ 1))

-- additional information, or no item
abbrev pub IsInfo : List ℕ → ℕ → Type 0
IsInfo text items = ((text ≡ []) × (items ≡ 0)) ⊎ ((info : List ℕ) × IsString Bytes text info × (items ≡ 1))

-- the text is this key, which is `items` items of the array
pub record IsKey (text : List ℕ) (key : LinkKey) (items : ℕ) : Type 0 where
  pub id : List ℕ
  pub usage : List ℕ
  pub value : List ℕ
  pub info : List ℕ
  pub usage_items : ℕ
  pub info_items : ℕ
  pub parts : text ≡ id ++ (usage ++ (value ++ info))
  pub counted : items ≡ 2 + usage_items + info_items
  pub is_id : IsBounded Unsigned 1 255 id key.id
  pub is_usage : IsUsage usage key.usage usage_items
  pub is_value : IsSized 16 value key.value
  pub is_info : IsInfo info info_items

-- the text is these keys, which are `items` items of the array
abbrev pub AreKeys : List ℕ → List LinkKey → ℕ → Type 0
AreKeys text [] items = (text ≡ []) × (items ≡ 0)
AreKeys text (key ∷ keys) items =
    (first rest : List ℕ) × (m n : ℕ) × (text ≡ first ++ rest) × (items ≡ m + n) × IsKey first key m × AreKeys rest keys n

-- an array of one to eight keys
pub record IsKeySet (text : List ℕ) (keys : List LinkKey) : Type 0 where
  pub items : ℕ
  pub head : List ℕ
  pub body : List ℕ
  pub parts : text ≡ head ++ body
  pub begins : IsBounded Array 2 32 head items
  pub follows : AreKeys body keys items
  pub at_most : length keys ≤ 8

-- ---- reading from the left. `left` is how many items of the array are left, `spare` how many beside a key's id and value.

-- an item of this major type is next
abbrev pub is_next : Major → List ℕ → Bool
is_next major [] = false
is_next major (first ∷ bytes) = code_of (major_of first) == code_of major

-- a usage, and how many items are left beside the key's id and value
pub record Used : Type 0 where
  pub usage : ℕ
  pub spare : ℕ

-- a key, and how many items of the array are left
pub record Made : Type 0 where
  pub key : LinkKey
  pub left : ℕ

abbrev pub used_view : ℕ × ℕ → Used
used_view x = record { usage = x.0; spare = x.1 }

abbrev pub made_view : LinkKey × ℕ → Made
made_view x = record { key = x.0; left = x.1 }

abbrev pub small : ℤ → List ℕ → ℕ → Result (Used × List ℕ) CojpFault
small (pos n) bytes spare =
    if nat_le n 14 then Ok (record { usage = n; spare = spare }, bytes) else Err (Malformed 2)
small (negsuc n) bytes spare = Err (Malformed 2)

-- Where no item is spare, only the value may be there.
unfoldable pub usage_at : ℕ → ℕ → List ℕ → Result (Used × List ℕ) CojpFault
usage_at zero end bytes = Ok (record { usage = 0; spare = 0 }, bytes)
usage_at (suc spare) end bytes =
    if is_next Unsigned bytes || is_next Negative bytes then within 2 (int_at end bytes) >>= (λ z. small z.0 z.1 spare)
    else Ok (record { usage = 0; spare = suc spare }, bytes)

unfoldable pub info_at : ℕ → ℕ → List ℕ → Result (ℕ × List ℕ) CojpFault
info_at zero end bytes = Ok (0, bytes)
info_at (suc left) end bytes =
    if is_next Bytes bytes then within 2 (string_at Bytes end bytes) >>= (λ x. Ok (left, x.1)) else Ok (suc left, bytes)

-- a key, where `spare` items are left beside its id and its value
unfoldable pub key_at : ℕ → ℕ → List ℕ → Result (Made × List ℕ) CojpFault
key_at spare end bytes = do
  id ← bounded_at 2 Unsigned 1 255 end bytes
  used ← usage_at spare end id.1
  value ← sized_at 2 16 end used.1
  info ← info_at used.0.spare end value.1
  Ok (record { key = record { id = id.0; usage = used.0.usage; value = value.0 }; left = info.0 }, info.1)

-- where items are left in which no key fits: one item, or any after eight keys
abbrev pub extra_item : ℕ → List ℕ → CojpFault
extra_item end [] = Form (Truncated (place end []))
extra_item end (b ∷ bytes) = Malformed 2

unfoldable pub keys_at : ℕ → ℕ → List LinkKey → ℕ → List ℕ → Result (List LinkKey × List ℕ) CojpFault
keys_at room zero before end bytes = Ok (before, bytes)
keys_at room (suc zero) before end bytes = Err (extra_item end bytes)
keys_at zero (suc (suc spare)) before end bytes = Err (extra_item end bytes)
keys_at (suc room) (suc (suc spare)) before end bytes = do
  made ← key_at spare end bytes
  keys_at room made.0.left (before ++ made.0.key ∷ []) end made.1

unfoldable pub key_set_at : ℕ → List ℕ → Result (List LinkKey × List ℕ) CojpFault
key_set_at end bytes = do
  n ← bounded_at 2 Array 2 32 end bytes
  keys_at 8 n.0 [] end n.1
