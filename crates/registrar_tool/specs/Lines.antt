-- What one line of `decide` leaves.
use Rattle.std.specs.Prelude.{ℕ, List, [], ◌∷◌, Option}
use Rattle.edge_traits.specs.Sink.{Appends, AppendsPrefix}
use Rattle.edge_traits.specs.declared.disk.Disk.{Ghosts}
use Rattle.tool_text.specs.declared.line.Line.{Line}
use Rattle.tool_text.specs.declared.outcome.Outcome.{Outcome}
use Rattle.tool_text.specs.Outcome.{outcome_text}
use Rattle.registrar_tool.specs.Told.{Standing, IsToldLine}
use Rattle.registrar_tool.specs.Run.{text_of}

-- the line was done and its outcome written
pub record IsLineDone {D : Type 0} (ghosts : Ghosts D) (old : Standing D) (line : Line) (written now : Option (List ℕ)) (new : Standing D) : Type 0 where
  pub outcomes : List Outcome
  pub told : IsToldLine ghosts old line outcomes new
  pub appended : Appends written now (text_of outcomes)

-- the line was done, and a prefix of its outcome's text written
pub record IsLineCut {D : Type 0} (ghosts : Ghosts D) (old : Standing D) (line : Line) (written now : Option (List ℕ)) (new : Standing D) : Type 0 where
  pub outcome : Outcome
  pub told : IsToldLine ghosts old line (outcome ∷ []) new
  pub appended : AppendsPrefix written now (outcome_text outcome)
