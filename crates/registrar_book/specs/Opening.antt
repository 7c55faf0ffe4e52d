-- What opening finds in a log, and why it stops.
use Rattle.std.specs.Prelude.{◌≡◌, ◌≢◌, ◌⊎◌, ◌<◌, ⊤, ℕ, Bool, IsTrue, List, ◌∷◌, ◌++◌, length, Contains, Option, None, Some}
use Rattle.edge_traits.specs.declared.names.PledgeId.{PledgeId}
use Rattle.edge_traits.specs.Disk.{Areas}
use Rattle.edge_traits.specs.Faults.{Rose}
use Rattle.journal_text.specs.declared.settings.Settings.{Settings}
use Rattle.journal_text.specs.declared.entry.Entry.{Entry}
use Rattle.journal_text.specs.declared.entry.Entry.TheVariants.{Enroll}
use Rattle.join_history.specs.Limits.{context_limit, entry_limit}
use Rattle.join_history.specs.Times.{last_time, moment}
use Rattle.join_history.specs.Contexts.{context_count}
use Rattle.join_history.specs.Legal.{IsLegal, MayFollow}
use Rattle.join_history.specs.Opening.{EnrollsRows, IsOpened}
use Rattle.journal_store.specs.declared.fault.Spot.TheVariants.{Entry as EntrySpot}
use Rattle.journal_store.specs.declared.fault.StoreFault.{StoreFault}
use Rattle.journal_store.specs.declared.fault.StoreFault.TheVariants as store
use Rattle.journal_store.specs.Store.{ImageHas}
use Rattle.journal_store.specs.Fault.{HasFault}
use Rattle.registrar_book.specs.declared.answers.OpenFault.{OpenFault}
use Rattle.registrar_book.specs.declared.answers.OpenFault.TheVariants.{Disk, NotAJournal, SameKey, ContextsFull, JournalFull, NoMemory}

-- this entry of the log is the first that may not follow those before it
pub record StopsAt (log : List Entry) (index : ℕ) : Type 0 where
  pub before : List Entry
  pub entry : Entry
  pub after : List Entry
  pub parts : log ≡ before ++ entry ∷ after
  pub legal : IsLegal before
  pub refused : MayFollow before entry → ⊥
  pub told : index ≡ length before

-- ---- rows and times

-- a row: a pledge and the check of its key
abbrev pub Row : Type 0
Row = PledgeId × List ℕ

-- the time of the entries that opening adds: the moment at this time of the clock, or the last time where there is none
abbrev pub opening_time : List Entry → Option ℕ → ℕ
opening_time log None = last_time log
opening_time log (Some now) = moment log now

-- the context of a row
abbrev pub HasContext : List Entry → Row → ℕ → Type 0
HasContext h row context = Contains h (Enroll context row.0 row.1)

-- In the history that the rows before it lead to, another pledge's context has the check of a row. This is the first such row.
pub record HaveSameKey (log : List Entry) (rows : List Row) (p q : PledgeId) : Type 0 where
  pub before : List Row
  pub check : List ℕ
  pub after : List Row
  pub between : List Entry
  pub context : ℕ
  pub parts : rows ≡ before ++ (q, check) ∷ after
  pub enrolled : EnrollsRows log before between
  pub found : Contains between (Enroll context p check)
  pub other : p ≢ q

-- with the contexts of these rows there are `count` contexts, which are too many
pub record HasTooManyContexts (log : List Entry) (rows : List Row) (count : ℕ) : Type 0 where
  pub history : List Entry
  pub enrolled : EnrollsRows log rows history
  pub is : count ≡ context_count history
  pub many : context_limit < count

-- with the entries of opening there are `count` entries, which are too many
pub record HasTooManyEntries (log : List Entry) (settings : Settings) (rows : List Row) (now : Option ℕ) (count : ℕ) : Type 0 where
  pub history : List Entry
  pub opened : IsOpened log (opening_time log now) settings rows history
  pub legal : IsLegal history
  pub is : count ≡ length history
  pub many : entry_limit < count

-- why nothing can be opened after this log: it isn't legal, or by the rows and settings, or memory was short
abbrev pub OpenCause : List Entry → Settings → List Row → Option ℕ → OpenFault → Type 0
OpenCause log settings rows now (NotAJournal (EntrySpot index)) = StopsAt log index
OpenCause log settings rows now (SameKey p q) = IsLegal log × HaveSameKey log rows p q
OpenCause log settings rows now (ContextsFull count) = IsLegal log × HasTooManyContexts log rows count
OpenCause log settings rows now (JournalFull count) = HasTooManyEntries log settings rows now count
OpenCause log settings rows now NoMemory = ⊤
OpenCause log settings rows now _ = ⊥

-- the disk's count of faults rose to this
abbrev pub IsDiskFault : ℕ → ℕ → OpenFault → Type 0
IsDiskFault before now (Disk count) = Rose before now × (count ≡ now)
IsDiskFault before now _ = ⊥

-- the fault of opening a journal is one of opening a book
abbrev pub IsStoreFault : StoreFault → OpenFault → Type 0
IsStoreFault (store.Disk count) fault = fault ≡ Disk count
IsStoreFault (store.NotAJournal spot) fault = fault ≡ NotAJournal spot
IsStoreFault store.NoMemory fault = fault ≡ NoMemory
IsStoreFault (store.AlreadyThere n) fault = ⊥

-- a disk that reports its content has this log
abbrev pub IsLogOf : Bool → Areas → List Entry → Type 0
IsLogOf tells areas log = IsTrue tells → ImageHas log areas

-- Why a disk wasn't opened: its count of faults rose to this, or its left area has no reading, or nothing can be opened
-- after its log.
abbrev pub BookCause : Bool → Areas → ℕ → ℕ → Settings → List Row → Option ℕ → OpenFault → Type 0
BookCause tells areas before after settings rows now (Disk count) = Rose before after × (count ≡ after)
BookCause tells areas before after settings rows now (NotAJournal spot) =
    (IsTrue tells → HasFault areas.left spot)
    ⊎ ((log : List Entry) × IsLogOf tells areas log × OpenCause log settings rows now (NotAJournal spot))
BookCause tells areas before after settings rows now NoMemory = ⊤
BookCause tells areas before after settings rows now fault = (log : List Entry) × IsLogOf tells areas log × OpenCause log settings rows now fault
