use Rattle.std.proofs.Common.{◌≡◌, length}
use Rattle.edge_memory.specs.Calls.{listed_part}
use Rattle.edge_memory.proofs.calls.Calls.listed.Given as goal

abbrev pub invariant-loop-call : goal.invariant-loop-call
invariant-loop-call l = listed_part l.rest l.self.next ≡ listed_part l.self.failing.items l.self.next

abbrev pub decreases-loop-call : goal.decreases-loop-call
decreases-loop-call l = length l.rest
