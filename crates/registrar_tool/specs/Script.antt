-- A script as far as it is read: to its end, or to one byte past the limit.
use Rattle.std.specs.Prelude.{◌≡◌, ◌⊎◌, ◌+◌, ◌<◌, ◌≤◌, ℕ, List, [], ◌∷◌, ◌++◌, length, Option, Contains}
use Rattle.std.specs.List.{AllZip}
use Rattle.edge_traits.specs.declared.names.PledgeId.{PledgeId}
use Rattle.edge_traits.specs.Source.{Takes, IsAtEnd}
use Rattle.tool_text.specs.declared.line.Line.{Line}
use Rattle.tool_text.specs.declared.line.Line.TheVariants.{Skipped, Ask}
use Rattle.tool_text.specs.Line.{IsLine}
use Rattle.tool_text.specs.Lines.{lines_of}

-- the bytes were read from the source: all that was left, or one byte more than the limit
pub record IsScriptRead (limit : ℕ) (before after : Option (List ℕ)) (bytes : List ℕ) : Type 0 where
  pub taken : Takes before after bytes
  pub most : length bytes ≤ limit + 1
  pub whole : length bytes ≤ limit → IsAtEnd after

-- each line has this reading, and none reaches past the limit
pub record IsScript (limit : ℕ) (bytes : List ℕ) (lines : List Line) : Type 0 where
  pub fits : length bytes ≤ limit
  pub each : AllZip IsLine (lines_of bytes) lines

-- Line k, from 1, is the first outside the grammar; the lines before it have these readings. A line with the first byte
-- past the limit is outside, whatever it says.
pub record IsWrongAt (limit : ℕ) (bytes : List ℕ) (lines : List Line) (k : ℕ) : Type 0 where
  pub before : List (List ℕ)
  pub wrong : List ℕ
  pub after : List (List ℕ)
  pub lines_are : lines_of bytes ≡ before ++ wrong ∷ after
  pub each : AllZip IsLine before lines
  pub number : k ≡ length before + 1
  pub outside : ((line : Line) → IsLine wrong line → ⊥) ⊎ ((after ≡ []) × (limit < length bytes))

-- the lines up to the first wrong one, or all
abbrev pub AreGoodLines : ℕ → List ℕ → List Line → Type 0
AreGoodLines limit bytes lines = IsScript limit bytes lines ⊎ ((k : ℕ) × IsWrongAt limit bytes lines k)

-- all are seen and then each further identifier of the lines once, in the order of its first line
abbrev pub ListsOnce : List PledgeId → List Line → List PledgeId → Type 0
ListsOnce seen [] all = all ≡ seen
ListsOnce seen (Skipped ∷ lines) all = ListsOnce seen lines all
ListsOnce seen (Ask time id number ∷ lines) all = (Contains seen id × ListsOnce seen lines all)
    ⊎ ((Contains seen id → ⊥) × ListsOnce (seen ++ id ∷ []) lines all)

-- how many of the lines are requests
abbrev pub ask_count : List Line → ℕ
ask_count [] = 0
ask_count (Skipped ∷ lines) = ask_count lines
ask_count (Ask time id number ∷ lines) = ask_count lines + 1
