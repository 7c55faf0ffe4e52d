-- Lemmas about the lines that were read and the identifiers that they list.
use Rattle.std.proofs.Common.{ℕ, List, [], ◌∷◌, ◌++◌, Option, Some, None, MatchOption, sym, subst, inl, inr}
use Rattle.std.specs.Prelude.{Contains}
use Rattle.std.specs.List.{AllZip}
use Rattle.std.proofs.lemmas.List.Elements.{Contains-push, Contains-append_left}
use Rattle.edge_traits.specs.declared.names.PledgeId.{PledgeId}
use Rattle.tool_text.specs.declared.line.Line.{Line}
use Rattle.tool_text.specs.declared.line.Line.TheVariants.{Skipped, Ask}
use Rattle.tool_text.specs.Line.{IsLine}
use Rattle.registrar_tool.specs.Script.{ListsOnce, IsScript, IsWrongAt, AreGoodLines}
use Rattle.registrar_tool.specs.Opened.{AreAskable}

-- what was seen before stays listed
Contains-listed_before : (seen : List PledgeId) (lines : List Line) (all : List PledgeId) (id : PledgeId)
    → ListsOnce seen lines all → Contains seen id → Contains all id
Contains-listed_before seen [] all id lists has = subst (λ x. Contains x id) (sym lists) has
Contains-listed_before seen (Skipped ∷ lines) all id lists has = Contains-listed_before seen lines all id lists has
Contains-listed_before seen (Ask time p number ∷ lines) all id lists has =
    elim lists [
      | inl known ↦ Contains-listed_before seen lines all id known.1 has
      | inr new ↦
          Contains-listed_before (seen ++ p ∷ []) lines all id new.1 (Contains-append_left seen (p ∷ []) id has)
    ]

-- the requests of lines that were read can be asked once their identifiers are listed
AreAskable-seen : (seen : List PledgeId) (lines : List Line) (all : List PledgeId) (read : List (List ℕ))
    → ListsOnce seen lines all → AllZip IsLine read lines → AreAskable all lines
AreAskable-seen seen [] all read lists each = tt
AreAskable-seen seen (line ∷ lines) all [] lists each = absurd each
AreAskable-seen seen (Skipped ∷ lines) all (bytes ∷ read) lists each = AreAskable-seen seen lines all read lists each.1
AreAskable-seen seen (Ask time id number ∷ lines) all (bytes ∷ read) lists each =
    elim lists [
      | inl known ↦ (
        Contains-listed_before seen lines all id known.1 known.0,
        each.0.number_fits,
        AreAskable-seen seen lines all read known.1 each.1,
      )
      | inr new ↦ (
        Contains-listed_before (seen ++ id ∷ []) lines all id new.1 (Contains-push seen id),
        each.0.number_fits,
        AreAskable-seen (seen ++ id ∷ []) lines all read new.1 each.1,
      )
    ]

module _ (limit : ℕ) (bytes : List ℕ) (lines : List Line) where
  -- the lines that were read are those up to the first wrong one, or all
  pub AreGoodLines-read : (wrong : Option ℕ) → MatchOption wrong (IsScript limit bytes lines) (IsWrongAt limit bytes lines)
      → AreGoodLines limit bytes lines
  AreGoodLines-read None script = inl script
  AreGoodLines-read (Some k) wrong = inr (k, wrong)

  -- their requests can be asked
  pub AreAskable-read : (ids : List PledgeId) → AreGoodLines limit bytes lines → ListsOnce [] lines ids → AreAskable ids lines
  AreAskable-read ids good lists =
      elim good [
        | inl script ↦ AreAskable-seen [] lines ids _ lists script.each
        | inr wrong ↦ AreAskable-seen [] lines ids wrong.1.before lists wrong.1.each
      ]

-- the lines after the first can be asked too
pub AreAskable-rest : (ids : List PledgeId) (line : Line) (rest : List Line) → AreAskable ids (line ∷ rest) → AreAskable ids rest
AreAskable-rest ids Skipped rest askable = askable
AreAskable-rest ids (Ask time id number) rest askable = askable.2
