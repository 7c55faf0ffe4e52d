-- An index of a list: for each key that an item has, the place of such an item.
use Rattle.std.specs.Prelude.{◌≡◌, ◌<◌, ℕ, List, Some, Contains, length, get_or}
use Rattle.std.specs.Map.{lookup}
use Rattle.std.specs.Str.{bytes_eq}

-- the places that the index has are of items with the key, and it has one for each item's key
pub record IsIndexOf {X : Type 0} (key : X → List ℕ) (items : List X) (places : List (List ℕ × ℕ)) : Type 0 where
  pub each : (k : List ℕ) (i : ℕ) → lookup (bytes_eq k) places ≡ Some i → (i < length items) × ((d : X) → key (get_or items i d) ≡ k)
  pub every : (x : X) → Contains items x → (i : ℕ) × (lookup (bytes_eq (key x)) places ≡ Some i)
