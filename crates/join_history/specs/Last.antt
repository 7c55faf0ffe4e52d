-- The last element of a list that has a property.
use Rattle.std.specs.Prelude.{◌≡◌, List, ◌∷◌, ◌++◌, All}

-- x has P, and nothing after it does
pub record IsLast {X : Type 0} (P : X → Type 0) (xs : List X) (x : X) : Type 0 where
  pub before : List X
  pub after : List X
  pub place : xs ≡ before ++ x ∷ after
  pub holds : P x
  pub none_after : All (λ y. P y → ⊥) after
