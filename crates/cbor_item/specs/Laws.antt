-- Laws of reading: what bytes that follow can change.
use Rattle.std.specs.Prelude.{◌≡◌, ℕ, ◌+◌, ◌<◌, List, ◌++◌, length, Result, Err}
use Rattle.std.specs.List.{AllByRecursion}
use Rattle.cbor_item.specs.declared.fault.ItemFault.{ItemFault}
use Rattle.cbor_item.specs.declared.fault.ItemFault.TheVariants.{Truncated, Kind, Indefinite, Deep, Trailing}
use Rattle.cbor_item.specs.Input.{place}

-- not for want of bytes, and not for bytes that are left
abbrev pub IsLasting : ItemFault → Type 0
IsLasting (Truncated at) = ⊥
IsLasting (Trailing at) = ⊥
IsLasting (Kind at) = Unit {0}
IsLasting (Indefinite at) = Unit {0}
IsLasting (Deep at) = Unit {0}

abbrev pub AreBytes : List ℕ → Type 0
AreBytes bytes = AllByRecursion (λ byte. byte < 256) bytes

-- What comes before this place is the beginning of such a text: other bytes than those that are left complete it.
pub record IsBegun (IsText : List ℕ → Type 0) (end : ℕ) (bytes : List ℕ) (at : ℕ) : Type 0 where
  pub before : List ℕ
  pub left : List ℕ
  pub more : List ℕ
  pub parts : bytes ≡ before ++ left
  pub begins : at ≡ place end left
  pub are_bytes : AreBytes more
  pub completed : IsText (before ++ more)

-- A fault that is lasting stays, whatever bytes follow. What was read up to an item that is cut can be completed.
pub record IsSteady {Y : Type 0} (read : ℕ → List ℕ → Result (Y × List ℕ) ItemFault) (IsText : List ℕ → Y → Type 0) : Type 0 where
  pub lasts : (end : ℕ) (bytes more : List ℕ) (fault : ItemFault) → IsLasting fault → read end bytes ≡ Err fault
      → read (end + length more) (bytes ++ more) ≡ Err fault
  pub completes : (end : ℕ) (bytes : List ℕ) (at : ℕ) → read end bytes ≡ Err (Truncated at)
      → IsBegun (λ text. (value : Y) × IsText text value) end bytes at
