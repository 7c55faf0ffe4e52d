-- The grammar of a script's lines. A space is the byte 32, and a comment begins with `#`, the byte 35.
use Rattle.std.specs.Prelude.{◌≡◌, ⊤, ℕ, ◌^◌, ◌<◌, List, [], ◌∷◌, ◌++◌, length, codes, decimal, Ok}
use Rattle.edge_traits.specs.declared.names.PledgeId.{PledgeId}
use Rattle.hex.specs.Hex.{decode_of}
use Rattle.tool_text.specs.declared.line.Line.{Line}
use Rattle.tool_text.specs.declared.line.Line.TheVariants.{Skipped, Ask}

-- no bytes, or a comment
abbrev pub IsSkipped : List ℕ → Type 0
IsSkipped [] = ⊤
IsSkipped (b ∷ bytes) = b ≡ 35

-- sixteen hex digits, each in either case, spell the identifier
pub record SpellsId (digits : List ℕ) (id : PledgeId) : Type 0 where
  pub sixteen : length digits ≡ 16
  pub decoded : decode_of digits ≡ Ok id.0

-- `ask TIME ID N`, with one space before each field; a number is in decimal, without a sign or leading zeros
pub record IsAsk (bytes : List ℕ) (time : ℕ) (id : PledgeId) (number : ℕ) : Type 0 where
  pub time_fits : time < 2 ^ 40
  pub number_fits : number < 2 ^ 40
  pub digits : List ℕ
  pub id_is : SpellsId digits id
  pub text : bytes ≡ codes "ask " ++ decimal time ++ codes " " ++ digits ++ codes " " ++ decimal number

-- the bytes of a line, without its LF, are this line
abbrev pub IsLine : List ℕ → Line → Type 0
IsLine bytes Skipped = IsSkipped bytes
IsLine bytes (Ask time id number) = IsAsk bytes time id number
