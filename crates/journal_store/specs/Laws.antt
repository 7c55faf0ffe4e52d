-- The laws of areas.
use Rattle.std.specs.Prelude.{◌≡◌, ◌⊎◌, ℕ, List, [], ◌++◌}
use Rattle.journal_text.specs.declared.entry.Entry.{Entry}
use Rattle.journal_store.specs.declared.fault.Spot.{Spot}
use Rattle.journal_store.specs.Area.{first_header, IsBatch, IsLog, MayHave, end_with, empty_journal}
use Rattle.journal_store.specs.Fault.{HasFault}

-- an area with one header has one log at most, and one place where that ends
abbrev pub OneLog : Type 0
OneLog = (header : List ℕ) (end place : ℕ) (log other : List Entry) (area : List ℕ) → IsLog header end log area → IsLog header place other area → (end ≡ place) × (log ≡ other)

-- and where it has a log it has no fault
abbrev pub NoFaultWithLog : Type 0
NoFaultWithLog = (end : ℕ) (log : List Entry) (area : List ℕ) (spot : Spot) → IsLog first_header end log area → HasFault area spot → ⊥

-- and it has one fault at most
abbrev pub OneFault : Type 0
OneFault = (area : List ℕ) (spot other : Spot) → HasFault area spot → HasFault area other → spot ≡ other

-- an area that was formatted has the empty log
abbrev pub EmptyJournalHasNoEntry : Type 0
EmptyJournalHasNoEntry = IsLog first_header 42 [] empty_journal.left

-- an area that may have a batch has the log without it or with it
abbrev pub WithoutOrWith : Type 0
WithoutOrWith = (header : List ℕ) (end : ℕ) (log entries : List Entry) (area : List ℕ) → MayHave header end log entries area → IsBatch entries
    → IsLog header end log area ⊎ IsLog header (end_with end entries) (log ++ entries) area
