use Rattle.std.proofs.Common.{◌≢◌, ◌+◌, ◌≤◌, List, [], length}
use Rattle.std.specs.Prelude.{AllPairs}
use Rattle.edge_traits.specs.declared.names.PledgeId.{PledgeId}
use Rattle.registrar_tool.specs.Script.{ListsOnce, ask_count}
use Rattle.registrar_tool.proofs.opening.list_ids.Given as goal

abbrev pub invariant-loop-rest : goal.invariant-loop-rest
invariant-loop-rest l = ((all : List PledgeId) → ListsOnce l.ids l.rest all → ListsOnce [] l.lines all)
    × AllPairs (λ p q. p ≢ q) l.ids × (length l.ids + ask_count l.rest ≤ ask_count l.lines)

abbrev pub decreases-loop-rest : goal.decreases-loop-rest
decreases-loop-rest l = length l.rest
