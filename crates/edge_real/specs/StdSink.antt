-- What standard output counts.
use Rattle.std.specs.Prelude.{ℕ}
use Rattle.edge_real.specs.declared.stdout.StdSink.{StdSink}

abbrev pub faults_of : {P : Type 0} → StdSink P → ℕ
faults_of sink = sink.faults.count
