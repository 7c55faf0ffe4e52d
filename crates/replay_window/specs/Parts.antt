-- The parts of a window: the greatest number taken and 32 bits. Bit i says that the greatest minus
-- i was taken.
use Rattle.std.specs.Prelude.{◌≡◌, ◌↔◌, ℕ, ◌-◌, ◌<◌, ◌≤◌, List, [], Option, Some, None, Contains}
use Rattle.std.specs.Int.{bit_at}

-- the bits say of each of the 32 numbers from the greatest down whether it is in the list
pub record AreBitsOf (numbers : List ℕ) (greatest bits : ℕ) : Type 0 where
  pub taken : Contains numbers greatest
  pub at_most : (m : ℕ) → Contains numbers m → m ≤ greatest
  pub marks : (i : ℕ) → i < 32 → (bit_at bits i ≡ 1) ↔ ((i ≤ greatest) × Contains numbers (greatest - i))

-- the parts of a window stand for the list; none stand for the empty one
abbrev pub StandsFor : List ℕ → Option (ℕ × ℕ) → Type 0
StandsFor numbers None = numbers ≡ []
StandsFor numbers (Some parts) = AreBitsOf numbers parts.0 parts.1

-- bit 0 is set, and no bit is at a place above the greatest number
pub record AreParts (greatest bits : ℕ) : Type 0 where
  pub first : bit_at bits 0 ≡ 1
  pub none_above : (i : ℕ) → greatest < i → bit_at bits i ≡ 0

abbrev pub IsWindow : Option (ℕ × ℕ) → Type 0
IsWindow None = Unit {0}
IsWindow (Some parts) = AreParts parts.0 parts.1
