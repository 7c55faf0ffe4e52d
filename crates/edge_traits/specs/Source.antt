-- What a source reports: what is left to read, or nothing.
use Rattle.std.specs.Prelude.{◌≡◌, ⊤, ℕ, List, [], ◌++◌, Option, Some, None}

-- These bytes were read from the start. Whether the source reports them doesn't change.
abbrev pub Takes : Option (List ℕ) → Option (List ℕ) → List ℕ → Type 0
Takes None None bytes = ⊤
Takes None (Some rest) bytes = ⊥
Takes (Some all) None bytes = ⊥
Takes (Some all) (Some rest) bytes = all ≡ bytes ++ rest

-- nothing is left, as far as the source reports it
abbrev pub IsAtEnd : Option (List ℕ) → Type 0
IsAtEnd None = ⊤
IsAtEnd (Some rest) = rest ≡ []
