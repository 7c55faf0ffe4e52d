-- The values of the OSCORE options that were passed.
use Rattle.std.proofs.Common.{ℕ, List, [], ◌∷◌, Option, None, Some, Bor}

-- the value that was found, as a list
abbrev pub found_list : Option (Bor (List ℕ)) → List (List ℕ)
found_list None = []
found_list (Some value) = value.now ∷ []
