use Rattle.std.proofs.Common.{◌-◌, ◌≤◌, length}
use Rattle.edge_traits.specs.Source.{Takes}
use Rattle.registrar_tool.proofs.script.read_script.Given as goal

abbrev pub invariant-loop-piece : goal.invariant-loop-piece
invariant-loop-piece g l = record {
  taken : Takes (g.T.Source.left l.fn.source) (g.T.Source.left l.source) l.bytes.items;
  most : length l.bytes.items ≤ 16777217;
  later : g.T.Source.fault_count l.fn.source ≤ g.T.Source.fault_count l.source;
}

abbrev pub decreases-loop-piece : goal.decreases-loop-piece
decreases-loop-piece g l = 16777217 - length l.bytes.items
