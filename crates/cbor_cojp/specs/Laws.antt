-- Laws of reading an object: what bytes that follow can change.
use Rattle.std.specs.Prelude.{◌≡◌, ◌⊎◌, ℕ, ◌+◌, List, ◌++◌, length, pos, Result, Err}
use Rattle.cbor_item.specs.declared.fault.ItemFault.TheVariants.{Truncated}
use Rattle.cbor_item.specs.declared.head.Major.TheVariants.{Map}
use Rattle.cbor_item.specs.Head.{IsHead}
use Rattle.cbor_item.specs.Reading.{IsInt}
use Rattle.cbor_item.specs.Laws.{IsBegun}
use Rattle.cbor_item.specs.Laws as item
use Rattle.cbor_cojp.specs.declared.fault.CojpFault.{CojpFault}
use Rattle.cbor_cojp.specs.declared.fault.CojpFault.TheVariants.{NotAMap, Form, Repeated, Malformed}
use Rattle.cbor_cojp.specs.declared.config.Configuration.{Configuration}
use Rattle.cbor_cojp.specs.Grammar.{Times}
use Rattle.cbor_cojp.specs.Key.{key_set_at}
use Rattle.cbor_cojp.specs.Join.{Join, IsJoin, join_at}
use Rattle.cbor_cojp.specs.Config.{ConfigFields, no_fields, IsConfigField, IsConfig, config_at}

-- not for want of bytes, and not for bytes that are left
abbrev pub IsLasting : CojpFault → Type 0
IsLasting (NotAMap at) = Unit {0}
IsLasting (Form fault) = item.IsLasting fault
IsLasting (Repeated label) = Unit {0}
IsLasting (Malformed label) = Unit {0}

-- a fault that is lasting stays, whatever bytes follow
abbrev pub Lasts : {Y : Type 0} → (ℕ → List ℕ → Result Y CojpFault) → Type 0
Lasts read =
    (end : ℕ) (bytes more : List ℕ) (fault : CojpFault) → IsLasting fault → read end bytes ≡ Err fault
    → read (end + length more) (bytes ++ more) ≡ Err fault

-- what was read of a request up to an item that is cut can be completed to a request
abbrev pub JoinCompletes : Type 0
JoinCompletes =
    (end : ℕ) (bytes : List ℕ) (at : ℕ) → join_at end bytes ≡ Err (Form (Truncated at)) → IsBegun (λ text. (join : Join) × IsJoin text join) end bytes at

-- After the map's head and some fields there is label 2, and its key set is what is cut. The items that are left of its
-- array may be such as no keys fill.
pub record IsCutKeySet (end : ℕ) (bytes : List ℕ) (at : ℕ) : Type 0 where
  pub head : List ℕ
  pub fields : List ℕ
  pub label : List ℕ
  pub value : List ℕ
  pub count : ℕ
  pub before : ℕ
  pub said : ConfigFields
  pub parts : bytes ≡ head ++ (fields ++ (label ++ value))
  pub begins : IsHead head Map count
  pub are_fields : Times IsConfigField before no_fields fields said
  pub is_label : IsInt label (pos 2)
  pub cut : key_set_at end value ≡ Err (Form (Truncated at))

-- what was read of a configuration up to an item that is cut can be completed, where the cut isn't in a key set
abbrev pub ConfigCompletes : Type 0
ConfigCompletes =
    (end : ℕ) (bytes : List ℕ) (at : ℕ) → config_at end bytes ≡ Err (Form (Truncated at))
    → IsBegun (λ text. (config : Configuration) × IsConfig text config) end bytes at ⊎ IsCutKeySet end bytes at
