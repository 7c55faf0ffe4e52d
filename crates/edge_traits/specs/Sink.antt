-- What a sink reports: what was written, or nothing.
use Rattle.std.specs.Prelude.{◌≡◌, ⊤, ℕ, ◌<◌, List, ◌++◌, length, Option, Some, None}

-- These bytes were appended. Whether the sink reports it doesn't change.
abbrev pub Appends : Option (List ℕ) → Option (List ℕ) → List ℕ → Type 0
Appends None None bytes = ⊤
Appends None (Some new) bytes = ⊥
Appends (Some old) None bytes = ⊥
Appends (Some old) (Some new) bytes = new ≡ old ++ bytes

-- A prefix of the text was appended, and not all of it.
pub record AppendsPrefix (old new : Option (List ℕ)) (text : List ℕ) : Type 0 where
  pub prefix : List ℕ
  pub rest : List ℕ
  pub parts : text ≡ prefix ++ rest
  pub missing : 0 < length rest
  pub appended : Appends old new prefix
