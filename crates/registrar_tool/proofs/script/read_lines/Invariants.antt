use Rattle.std.proofs.Common.{ℕ, List, length}
use Rattle.registrar_tool.proofs.ScriptLemmas.{AreReadBefore}
use Rattle.registrar_tool.proofs.script.read_lines.Given as goal

abbrev pub invariant-loop-line : goal.invariant-loop-line
invariant-loop-line l = (before : List (List ℕ)) × AreReadBefore l.bytes l.rest before l.lines.items

abbrev pub decreases-loop-line : goal.decreases-loop-line
decreases-loop-line l = length l.rest
