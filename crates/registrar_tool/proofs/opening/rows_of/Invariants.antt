use Rattle.std.proofs.Common.{◌≡◌, ◌++◌, length, map}
use Rattle.registrar_tool.specs.Told.{decide_row}
use Rattle.registrar_tool.proofs.opening.rows_of.Given as goal

abbrev pub invariant-loop-rest : goal.invariant-loop-rest
invariant-loop-rest l = l.rows.items ++ map decide_row l.rest ≡ map decide_row l.ids

abbrev pub decreases-loop-rest : goal.decreases-loop-rest
decreases-loop-rest l = length l.rest
