-- The exit status of each end of a run.
use Rattle.std.specs.Prelude.{ℕ}
use Rattle.registrar_tool.specs.declared.status.Status.{Status}
use Rattle.registrar_tool.specs.declared.status.Status.TheVariants.{Done, Usage, ReadFault, WriteFault, DiskFault, BadScript, NotAJournal, AlreadyThere, SameKey, NoMemory, JournalFull, ContextsFull}

abbrev pub number_of : Status → ℕ
number_of Done = 0
number_of Usage = 2
number_of (ReadFault faults) = 3
number_of (WriteFault faults) = 4
number_of (DiskFault faults) = 5
number_of (BadScript line) = 7
number_of (NotAJournal spot) = 8
number_of (AlreadyThere size) = 9
number_of (SameKey first second) = 10
number_of NoMemory = 12
number_of (JournalFull entries) = 14
number_of (ContextsFull contexts) = 15
