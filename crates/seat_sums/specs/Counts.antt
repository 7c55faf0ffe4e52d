-- Counts of numbers, and sums.
use Rattle.std.specs.Prelude.{ℕ, ◌+◌, ◌==◌, ◌&&◌, nat_le, nat_lt, if◌then◌else◌, List, [], ◌∷◌}

-- how often the number occurs in the list
abbrev pub times : ℕ → List ℕ → ℕ
times number [] = 0
times number (n ∷ ns) = (if n == number then 1 else 0) + times number ns

-- 1 for a number that is at least `from` and below `to`, else 0
abbrev pub once_within : ℕ → ℕ → ℕ → ℕ
once_within from to number = if nat_le from number && nat_lt number to then 1 else 0

-- the sum of f over the views
abbrev pub total : {A : Type 0} → (A → ℕ) → List A → ℕ
total f [] = 0
total f (v ∷ vs) = f v + total f vs
