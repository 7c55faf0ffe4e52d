-- What a disk of two files counts.
use Rattle.std.specs.Prelude.{ℕ}
use Rattle.edge_real.specs.declared.file_disk.FileDisk.{FileDisk}

abbrev pub faults_of : {R File Dir : Type 0} → FileDisk R File Dir → ℕ
faults_of disk = disk.faults.count
