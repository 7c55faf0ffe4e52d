-- What a book stands for, and what a decision answers.
use Rattle.std.specs.Prelude.{◌≡◌, ◌≤◌, ◌<◌, ◌⊎◌, ℕ, ⊤, IsTrue, Option, Result, Ok, Err, Vec, List, [], ◌∷◌, ◌++◌, length}
use Rattle.std.specs.List.{AllZip}
use Rattle.std.specs.declared.alloc.Global.{Global}
use Rattle.edge_traits.specs.Disk.{Areas, LeavesOnly}
use Rattle.edge_traits.specs.declared.disk.Disk.{Ghosts}
use Rattle.edge_traits.specs.Faults.{Rose}
use Rattle.journal_text.specs.declared.settings.Settings.{Settings}
use Rattle.journal_text.specs.declared.entry.Entry.{Entry}
use Rattle.join_history.specs.declared.due.Due.TheVariants as due
use Rattle.join_history.specs.declared.due.Want.{Want}
use Rattle.join_history.specs.Limits.{entry_limit}
use Rattle.join_history.specs.Due.{IsDue}
use Rattle.join_history.specs.Legal.{IsLegal}
use Rattle.join_history.specs.Opening.{IsOpened}
use Rattle.registrar_state.specs.declared.state.RegState.{RegState}
use Rattle.registrar_state.specs.State.{StandsFor}
use Rattle.journal_store.specs.Store.{disk_of, ImageHas}
use Rattle.registrar_book.specs.declared.answers.OpenFault.{OpenFault}
use Rattle.registrar_book.specs.declared.answers.OpenFault.TheVariants.{Disk}
use Rattle.registrar_book.specs.declared.answers.Decided.{Decided}
use Rattle.registrar_book.specs.declared.answers.Decided.TheVariants.{Made, Again, Quiet, Unsure, Full}
use Rattle.registrar_book.specs.declared.book.Book.{Book}
use Rattle.registrar_book.specs.Journals.{IsHeld, HasPrefix}
use Rattle.registrar_book.specs.Opening.{Row, HasContext, IsLogOf, opening_time}

abbrev pub log_of : {D : Type 0} {ghosts : Ghosts D} → Book D ghosts → List Entry
log_of book = book.desk.log.items

abbrev pub state_of : {D : Type 0} {ghosts : Ghosts D} → Book D ghosts → RegState
state_of book = book.desk.state

-- how many entries of the log are durable
abbrev pub durable_of : {D : Type 0} {ghosts : Ghosts D} → Book D ghosts → ℕ
durable_of book = book.desk.durable

abbrev pub book_disk : {D : Type 0} {ghosts : Ghosts D} → Book D ghosts → D
book_disk book = disk_of book.press.journal

-- The disk has the log of the book as far as the book counts it durable, and the rest is all of it or is pending as one batch.
unfoldable pub IsKept : {D : Type 0} {ghosts : Ghosts D} → (D → Areas → Type 0) → Book D ghosts → Type 0
IsKept may_leave book = IsHeld may_leave book.press.journal (log_of book) (durable_of book)

-- ---- opening

-- a book that was opened after this log, and the context of each row
pub record IsOpenBook {D : Type 0} {ghosts : Ghosts D} (log : List Entry) (settings : Settings) (rows : List Row) (now : Option ℕ) (book : Book D ghosts) (contexts : List ℕ) : Type 0 where
  pub opened : IsOpened log (opening_time log now) settings rows (log_of book)
  pub stands : StandsFor (state_of book) (log_of book)
  pub each : AllZip (HasContext (log_of book)) rows contexts
  pub most : length (log_of book) ≤ entry_limit
  pub durable : durable_of book ≡ length (log_of book)

-- A book that was opened on this disk. Beside what was left before, a crash at any moment of it leaves a prefix of the book's log,
-- with what the disk had at least.
pub record IsOpenOn {D : Type 0} {ghosts : Ghosts D} (disk : D) (settings : Settings) (rows : List Row) (now : Option ℕ) (book : Book D ghosts) (contexts : List ℕ) : Type 0 where
  pub log : List Entry
  pub log_is : IsLogOf (ghosts.tells disk) (ghosts.seen disk) log
  pub is_open : IsOpenBook log settings rows now book contexts
  pub any_moment : IsTrue (ghosts.tells disk) → LeavesOnly ghosts.moment ghosts.left_since disk (book_disk book)
      (λ image. ghosts.may_leave disk image ⊎ HasPrefix (length log) (log_of book) image)

-- The image has the log that these areas have, and a prefix of what opening adds to it.
pub record HasOpening (areas : Areas) (settings : Settings) (rows : List Row) (now : Option ℕ) (image : Areas) : Type 0 where
  pub log : List Entry
  pub has : ImageHas log areas
  pub history : List Entry
  pub opened : IsOpened log (opening_time log now) settings rows history
  pub legal : IsLegal history
  pub prefix : HasPrefix (length log) history image

-- the disk, in the book or handed back
abbrev pub book_disk_after : {D : Type 0} {ghosts : Ghosts D} → Result (Book D ghosts × Vec ℕ Global) (D × OpenFault) → D
book_disk_after (Ok opened) = book_disk opened.0
book_disk_after (Err refused) = refused.0

-- the answers after which the disk is as it was
abbrev pub WroteNothing : OpenFault → Type 0
WroteNothing (Disk count) = ⊥
WroteNothing _ = ⊤

-- ---- decisions

-- What a decision answers after the history g, the entries that it adds, and the length of the log then. Where it is
-- unsure, the entry that is due was added, or the batch before it isn't settled and nothing was decided.
abbrev pub IsDecided : List Entry → ℕ → ℕ → ℕ → Want → Decided → List Entry → ℕ → Type 0
IsDecided g now c n want (Made at) added length = (e : Entry) × IsDue g now c n want (due.Add e) × (added ≡ e ∷ []) × (at ≡ length) × (length ≤ entry_limit)
IsDecided g now c n want (Again at) added length = IsDue g now c n want due.Again × (added ≡ []) × (at ≡ length)
IsDecided g now c n want (Quiet why at) added length = IsDue g now c n want (due.Quiet why) × (added ≡ []) × (at ≡ length)
IsDecided g now c n want (Full at) added length = (e : Entry) × IsDue g now c n want (due.Add e) × (added ≡ []) × (at ≡ length) × (length ≡ entry_limit)
IsDecided g now c n want (Unsure at faults) added length = ((added ≡ []) ⊎ ((e : Entry) × IsDue g now c n want (due.Add e) × (added ≡ e ∷ []) × (length ≤ entry_limit))) × (at ≡ length)

-- all but Unsure are answered only once the whole log is durable
abbrev pub IsDurableUnlessUnsure : Decided → ℕ → ℕ → Type 0
IsDurableUnlessUnsure (Unsure at faults) durable length = ⊤
IsDurableUnlessUnsure _ durable length = durable ≡ length

-- a decision is unsure only where the disk's count of faults rose, to this
abbrev pub HasDecidedCause : ℕ → ℕ → Decided → Type 0
HasDecidedCause before now (Unsure at faults) = Rose before now × (faults ≡ now)
HasDecidedCause before now _ = ⊤

-- Where an answer is unsure nothing more became durable: nothing was decided, since the batch before it isn't settled, or the
-- entry is pending after all that was there.
abbrev pub LeavesDurable : Decided → List Entry → ℕ → ℕ → ℕ → Type 0
LeavesDurable (Unsure at faults) [] durable length now = (durable < length) × (now ≡ durable)
LeavesDurable (Unsure at faults) (e ∷ added) durable length now = now ≡ length
LeavesDurable _ added durable length now = ⊤

-- what a decision adds to a book
pub record Adds {D : Type 0} {ghosts : Ghosts D} (old new : Book D ghosts) (g : List Entry) (now c n : ℕ) (want : Want) (answer : Decided) : Type 0 where
  pub added : List Entry
  pub decided : IsDecided g now c n want answer added (length (log_of new))
  pub durable : LeavesDurable answer added (durable_of old) (length (log_of old)) (durable_of new)
  pub log : log_of new ≡ log_of old ++ added
  pub stands : StandsFor (state_of new) (g ++ added)

-- what became of an entry that is due, and what it adds
abbrev pub IsAdded : Entry → Decided → List Entry → ℕ → Type 0
IsAdded e (Made at) added length = (added ≡ e ∷ []) × (at ≡ length) × (length ≤ entry_limit)
IsAdded e (Full at) added length = (added ≡ []) × (at ≡ length) × (length ≡ entry_limit)
IsAdded e (Unsure at faults) added length = (added ≡ e ∷ []) × (at ≡ length) × (length ≤ entry_limit)
IsAdded e (Again at) added length = ⊥
IsAdded e (Quiet why at) added length = ⊥

pub record AddsEntry {D : Type 0} {ghosts : Ghosts D} (old new : Book D ghosts) (e : Entry) (answer : Decided) : Type 0 where
  pub added : List Entry
  pub is : IsAdded e answer added (length (log_of new))
  pub durable : LeavesDurable answer added (durable_of old) (length (log_of old)) (durable_of new)
  pub log : log_of new ≡ log_of old ++ added
  pub stands : (g : List Entry) → StandsFor (state_of old) g → StandsFor (state_of new) (g ++ added)
