-- What a run of `decide` reads, does and writes.
use Rattle.std.specs.Prelude.{◌≡◌, ◌≢◌, ◌⊎◌, ◌≤◌, ◌<◌, ⊤, ℕ, IsTrue, List, [], ◌∷◌, ◌++◌, Option, None, map, length}
use Rattle.std.specs.List.{flat_map}
use Rattle.edge_traits.specs.declared.names.PledgeId.{PledgeId}
use Rattle.edge_traits.specs.declared.disk.Disk.{Ghosts}
use Rattle.edge_traits.specs.Disk.{Areas, LeavesOnly, Only}
use Rattle.edge_traits.specs.Sink.{Appends}
use Rattle.journal_text.specs.declared.settings.Settings.{Settings}
use Rattle.journal_text.specs.declared.entry.Entry.{Entry}
use Rattle.join_history.specs.Limits.{entry_limit}
use Rattle.join_history.specs.Times.{last_time}
use Rattle.join_history.specs.Legal.{IsLegal}
use Rattle.join_history.specs.Opening.{IsOpened}
use Rattle.journal_store.specs.Area.{empty_journal}
use Rattle.registrar_book.specs.declared.answers.OpenFault.{OpenFault}
use Rattle.registrar_book.specs.declared.answers.OpenFault.TheVariants as fault
use Rattle.registrar_book.specs.Journals.{HasPrefix}
use Rattle.registrar_book.specs.Opening.{IsLogOf, BookCause}
use Rattle.registrar_book.specs.Books.{HasOpening}
use Rattle.tool_text.specs.declared.line.Line.{Line}
use Rattle.tool_text.specs.declared.outcome.Outcome.{Outcome}
use Rattle.tool_text.specs.Outcome.{outcome_text}
use Rattle.registrar_tool.specs.declared.status.Status.{Status}
use Rattle.registrar_tool.specs.declared.status.Status.TheVariants.{Done, Usage, ReadFault, WriteFault, DiskFault, BadScript, NotAJournal, AlreadyThere, SameKey, NoMemory, JournalFull, ContextsFull}
use Rattle.registrar_tool.specs.Words.{IsDecide, IsInit}
use Rattle.registrar_tool.specs.Script.{IsScriptRead, IsScript, IsWrongAt, AreGoodLines, ListsOnce}
use Rattle.registrar_tool.specs.Told.{Standing, decide_row, IsTold, IsToldLine, IsSafe, AreMoments}

-- the bytes that a script may have
abbrev pub script_limit : ℕ
script_limit = 16777216

-- the printed lines of outcomes
abbrev pub text_of : List Outcome → List ℕ
text_of outcomes = flat_map outcome_text outcomes

-- ---- opening

-- The history of the disk, opened with the settings and the identifiers of the lines. All of it is durable.
pub record IsStart {D : Type 0} (ghosts : Ghosts D) (disk : D) (settings : Settings) (lines : List Line) (start : Standing D) : Type 0 where
  pub log : List Entry
  pub log_is : IsLogOf (ghosts.tells disk) (ghosts.seen disk) log
  pub ids : List PledgeId
  pub listed : ListsOnce [] lines ids
  pub opened : IsOpened log (last_time log) settings (map decide_row ids) start.history
  pub legal : IsLegal start.history
  pub most : length start.history ≤ entry_limit
  pub durable : start.durable ≡ length start.history
  pub counted : ghosts.fault_count disk ≤ ghosts.fault_count start.disk
  pub safe : IsSafe ghosts start
  pub tells : ghosts.tells start.disk ≡ ghosts.tells disk

-- The history of the disk wasn't opened with the settings and the identifiers of the lines, for this cause. A crash at any moment
-- leaves no more than what opening adds.
pub record IsNotOpened {D : Type 0} (ghosts : Ghosts D) (disk now : D) (settings : Settings) (bytes : List ℕ) (why : OpenFault) : Type 0 where
  pub lines : List Line
  pub good : AreGoodLines script_limit bytes lines
  pub ids : List PledgeId
  pub listed : ListsOnce [] lines ids
  pub cause : BookCause (ghosts.tells disk) (ghosts.seen disk) (ghosts.fault_count disk) (ghosts.fault_count now) settings (map decide_row ids) None why
  pub moments : IsTrue (ghosts.tells disk) → LeavesOnly ghosts.moment ghosts.left_since disk now
      (λ image. ghosts.may_leave disk image ⊎ HasOpening (ghosts.seen disk) settings (map decide_row ids) None image)

-- ---- lines

-- Beside what was left before, a crash at any moment leaves a prefix of this history, with what the disk had at least.
abbrev pub LeavesPrefixes : {D : Type 0} → Ghosts D → D → List Entry → List Entry → D → Type 0
LeavesPrefixes ghosts disk log history end = IsTrue (ghosts.tells disk)
    → LeavesOnly ghosts.moment ghosts.left_since disk end (λ image. ghosts.may_leave disk image ⊎ HasPrefix (length log) history image)

-- The lines were done, and the outcomes written.
pub record AreDone {D : Type 0} (ghosts : Ghosts D) (start : Standing D) (lines : List Line) (written now : Option (List ℕ)) (end : D) : Type 0 where
  pub outcomes : List Outcome
  pub last : Standing D
  pub told : IsTold ghosts start lines outcomes last
  pub moments : AreMoments ghosts start last
  pub disk : last.disk ≡ end
  pub appended : Appends written now (text_of outcomes)

-- Some lines were done and their outcomes written, and one more line with an outcome was done, whose text was not written
-- whole.
pub record AreCutShort {D : Type 0} (ghosts : Ghosts D) (start : Standing D) (lines : List Line) (written now : Option (List ℕ)) (end : D) : Type 0 where
  pub before : List Line
  pub line : Line
  pub after : List Line
  pub outcomes : List Outcome
  pub between : Standing D
  pub outcome : Outcome
  pub last : Standing D
  pub prefix : List ℕ
  pub missing : List ℕ
  pub lines_are : lines ≡ before ++ line ∷ after
  pub told : IsTold ghosts start before outcomes between
  pub told_last : IsToldLine ghosts between line (outcome ∷ []) last
  pub moments : AreMoments ghosts start last
  pub disk : last.disk ≡ end
  pub text : outcome_text outcome ≡ prefix ++ missing
  pub some_missing : 0 < length missing
  pub appended : Appends written now (text_of outcomes ++ prefix)

-- the bytes are a script in the grammar, and each line was done
pub record IsWhole {D : Type 0} (ghosts : Ghosts D) (settings : Settings) (bytes : List ℕ) (disk end : D) (written now : Option (List ℕ)) : Type 0 where
  pub lines : List Line
  pub start : Standing D
  pub script : IsScript script_limit bytes lines
  pub starts : IsStart ghosts disk settings lines start
  pub done : AreDone ghosts start lines written now end
  pub moments : LeavesPrefixes ghosts disk starts.log done.last.history end

-- line k of the bytes is the first outside the grammar, and each line before it was done
pub record IsWrongFrom {D : Type 0} (ghosts : Ghosts D) (settings : Settings) (bytes : List ℕ) (disk end : D) (written now : Option (List ℕ)) (k : ℕ) : Type 0 where
  pub lines : List Line
  pub start : Standing D
  pub wrong : IsWrongAt script_limit bytes lines k
  pub starts : IsStart ghosts disk settings lines start
  pub done : AreDone ghosts start lines written now end
  pub moments : LeavesPrefixes ghosts disk starts.log done.last.history end

-- the sink failed at the outcome of a line in the grammar
pub record IsCut {D : Type 0} (ghosts : Ghosts D) (settings : Settings) (bytes : List ℕ) (disk end : D) (written now : Option (List ℕ)) : Type 0 where
  pub lines : List Line
  pub start : Standing D
  pub good : AreGoodLines script_limit bytes lines
  pub starts : IsStart ghosts disk settings lines start
  pub cut : AreCutShort ghosts start lines written now end
  pub moments : LeavesPrefixes ghosts disk starts.log cut.last.history end

-- ---- runs

-- What holds of the settings that the words give, and of the bytes that were read.
pub record IsRun (words : List (List ℕ)) (left left_now : Option (List ℕ)) (P : Settings → List ℕ → Type 0) : Type 0 where
  pub settings : Settings
  pub bytes : List ℕ
  pub words_are : IsDecide words settings
  pub read : IsScriptRead script_limit left left_now bytes
  pub so : P settings bytes

-- an area isn't empty
abbrev pub IsSomething : Areas → Type 0
IsSomething areas = (areas.left ≢ []) ⊎ (areas.right ≢ [])

-- two empty areas became an empty journal, and it is durable
pub record AreFormatted {D : Type 0} (ghosts : Ghosts D) (disk end : D) : Type 0 where
  pub left_was : IsTrue (ghosts.tells disk) → (ghosts.seen disk).left ≡ []
  pub right_was : IsTrue (ghosts.tells disk) → (ghosts.seen disk).right ≡ []
  pub reads : IsTrue (ghosts.tells disk) → ghosts.seen end ≡ empty_journal
  pub durable : IsTrue (ghosts.tells disk) → Only empty_journal (ghosts.may_leave end)

-- the words are `init`, and the journal was made
abbrev pub IsFormatted : {D : Type 0} → Ghosts D → List (List ℕ) → D → D → Type 0
IsFormatted ghosts words disk end = IsInit words × AreFormatted ghosts disk end

-- ---- statuses

-- the status of a journal that wasn't opened
abbrev pub open_status : OpenFault → Status
open_status (fault.Disk count) = DiskFault count
open_status (fault.NotAJournal spot) = NotAJournal spot
open_status (fault.SameKey p q) = SameKey p q
open_status (fault.ContextsFull count) = ContextsFull count
open_status (fault.JournalFull count) = JournalFull count
open_status fault.NoMemory = NoMemory

-- the ends before a line was done
abbrev pub IsBeforeLines : Status → Type 0
IsBeforeLines Done = ⊥
IsBeforeLines (WriteFault faults) = ⊥
IsBeforeLines (BadScript line) = ⊥
IsBeforeLines _ = ⊤

-- the ends before a call on the disk
abbrev pub IsBeforeDisk : Status → Type 0
IsBeforeDisk Usage = ⊤
IsBeforeDisk (ReadFault faults) = ⊤
IsBeforeDisk _ = ⊥

-- the ends after which the disk is as it was
abbrev pub LeavesDisk : Status → Type 0
LeavesDisk Done = ⊥
LeavesDisk (WriteFault faults) = ⊥
LeavesDisk (DiskFault faults) = ⊥
LeavesDisk (BadScript line) = ⊥
LeavesDisk _ = ⊤

-- the ends of `init`
abbrev pub IsInitStatus : Status → Type 0
IsInitStatus Done = ⊤
IsInitStatus (WriteFault faults) = ⊤
IsInitStatus (DiskFault faults) = ⊤
IsInitStatus (AlreadyThere length) = ⊤
IsInitStatus _ = ⊥

-- the ends of `decide`
abbrev pub IsDecideStatus : Status → Type 0
IsDecideStatus Usage = ⊥
IsDecideStatus (AlreadyThere length) = ⊥
IsDecideStatus _ = ⊤

-- the ends of `decide` once the script was read
abbrev pub IsScriptStatus : Status → Type 0
IsScriptStatus Usage = ⊥
IsScriptStatus (AlreadyThere length) = ⊥
IsScriptStatus (ReadFault faults) = ⊥
IsScriptStatus _ = ⊤
