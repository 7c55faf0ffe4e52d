-- What a value reports, and how two values of one lock may follow one another.
use Rattle.std.specs.Prelude.{◌≡◌, ℕ, ◌≤◌, List, [], ◌∷◌}
use mathlib.Core.List.{IsPrefix}

pub record Report (I : Type 0) : Type 0 where
  pub items : List I
  pub first : ℕ
  pub second : ℕ

-- the list goes on, and no number falls
abbrev pub GrowsTo : {I : Type 0} → Report I → Report I → Type 0
GrowsTo before after = IsPrefix before.items after.items × (before.first ≤ after.first) × (before.second ≤ after.second)

-- P of each element
abbrev pub Each : {X : Type 0} → (X → Type 0) → List X → Type 0
Each P [] = Unit {0}
Each P (x ∷ xs) = P x × Each P xs

module _ {V I O : Type 0} (report : V → Report I) (origin : V → O) where
  -- the value `after` may be given back where `before` was taken
  abbrev pub MayFollow : V → V → Type 0
  MayFollow before after = GrowsTo (report before) (report after) × (origin after ≡ origin before)

  -- each value may follow each before it
  abbrev pub IsGrowing : List V → Type 0
  IsGrowing [] = Unit {0}
  IsGrowing (v ∷ vs) = Each (MayFollow v) vs × IsGrowing vs
