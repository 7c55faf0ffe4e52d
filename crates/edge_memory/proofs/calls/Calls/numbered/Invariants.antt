use Rattle.std.proofs.Common.{◌≡◌, ◌++◌, length}
use Rattle.edge_memory.specs.Calls.{with_part}
use Rattle.edge_memory.proofs.calls.Calls.numbered.Given as goal

abbrev pub invariant-loop-number : goal.invariant-loop-number
invariant-loop-number l = l.failing.items ++ with_part l.part l.rest ≡ with_part l.part l.numbers

abbrev pub decreases-loop-number : goal.decreases-loop-number
decreases-loop-number l = length l.rest
