-- The lines of a script. LF is the byte 10.
use Rattle.std.specs.Prelude.{◌≡◌, ◌≢◌, ℕ, ◌==◌, if◌then◌else◌, ◌⊎◌, List, [], ◌∷◌, ◌++◌, All}
use Rattle.std.specs.List.{onto_first}

-- each line without its LF; the last line may lack it
abbrev pub lines_of : List ℕ → List (List ℕ)
lines_of [] = []
lines_of (b ∷ bytes) = if b == 10 then [] ∷ lines_of bytes else onto_first b (lines_of bytes)

-- this byte isn't among the bytes
abbrev pub Lacks : List ℕ → ℕ → Type 0
Lacks bytes byte = All (λ b. b ≢ byte) bytes

-- the line, and after its LF the rest; or the line is all, and has no LF
pub record IsFirstLine (bytes line rest : List ℕ) : Type 0 where
  pub no_lf : Lacks line 10
  pub parts : (bytes ≡ line ++ 10 ∷ rest) ⊎ ((bytes ≡ line) × (rest ≡ []))
