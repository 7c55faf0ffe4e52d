use Rattle.std.proofs.Common.{◌+◌, ◌≤◌, length}
use Rattle.edge_traits.specs.Disk.{Torn}
use Rattle.edge_memory.proofs.contents.tear.Given as goal

abbrev pub invariant-loop-i : goal.invariant-loop-i
invariant-loop-i l = record {
  torn : Torn l.at l.i l.fn.content.items l.content.items;
  inside : l.at + l.i ≤ length l.content.items;
}
