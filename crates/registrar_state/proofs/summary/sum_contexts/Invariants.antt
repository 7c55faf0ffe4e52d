use Rattle.std.proofs.Common.{take}
use Rattle.std.specs.List.{AllZip}
use Rattle.registrar_state.specs.Summary.{IsContextOf}
use Rattle.registrar_state.proofs.summary.sum_contexts.Given as goal

abbrev pub invariant-loop-row : goal.invariant-loop-row
invariant-loop-row l = AllZip IsContextOf (take l.row-index l.rows) l.contexts.items
