use Rattle.std.proofs.Common.{◌≡◌, ℕ, List, ◌++◌, length}
use Rattle.edge_traits.specs.Sink.{Appends}
use Rattle.edge_traits.proofs.sink.write_all.Given as goal

abbrev pub invariant-loop-rest : goal.invariant-loop-rest
invariant-loop-rest g l = record {
  done : List ℕ;
  parts : l.bytes ≡ done ++ l.rest;
  appended : Appends (g.K.Sink.written l.initial.out) (g.K.Sink.written l.out) done;
  same : g.K.Sink.fault_count l.out ≡ g.K.Sink.fault_count l.initial.out;
}

abbrev pub decreases-loop-rest : goal.decreases-loop-rest
decreases-loop-rest g l = length l.rest
