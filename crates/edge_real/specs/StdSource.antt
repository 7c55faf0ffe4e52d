-- What standard input counts.
use Rattle.std.specs.Prelude.{ℕ}
use Rattle.edge_real.specs.declared.stdin.StdSource.{StdSource}

abbrev pub faults_of : {I Reader : Type 0} → StdSource I Reader → ℕ
faults_of source = source.faults.count
