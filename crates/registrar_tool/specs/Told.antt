-- A script and its outcomes, one line at a time, over the history and the disk so far.
use Rattle.std.specs.Prelude.{◌≡◌, ◌≤◌, ◌<◌, ◌⊎◌, ⊤, ℕ, IsTrue, List, [], ◌∷◌, ◌++◌, Contains, replicate, length}
use Rattle.edge_traits.specs.declared.names.PledgeId.{PledgeId}
use Rattle.edge_traits.specs.declared.disk.Disk.{Ghosts}
use Rattle.edge_traits.specs.Disk.{Areas, LeavesOnly}
use Rattle.edge_traits.specs.Faults.{Rose}
use Rattle.journal_text.specs.Codes.{code_of}
use Rattle.journal_text.specs.declared.entry.Entry.{Entry}
use Rattle.journal_text.specs.declared.entry.Entry.TheVariants as entry
use Rattle.join_history.specs.declared.due.Due.{Due}
use Rattle.join_history.specs.declared.due.Due.TheVariants.{Add, Again, Quiet}
use Rattle.join_history.specs.declared.due.Want.TheVariants.{Join}
use Rattle.join_history.specs.Limits.{entry_limit}
use Rattle.join_history.specs.Due.{IsDue}
use Rattle.join_history.specs.Legal.{IsLegal}
use Rattle.registrar_state.specs.declared.last.Last.{Last}
use Rattle.registrar_state.specs.declared.last.Last.TheVariants as last
use Rattle.registrar_state.specs.Last.{IsLastAnswer}
use Rattle.registrar_book.specs.Journals.{HasPrefix}
use Rattle.tool_text.specs.declared.line.Line.{Line}
use Rattle.tool_text.specs.declared.line.Line.TheVariants.{Skipped, Ask}
use Rattle.tool_text.specs.declared.outcome.Outcome.{Outcome}
use Rattle.tool_text.specs.declared.outcome.Outcome.TheVariants as outcome

-- the check under which `decide` enrolls an identifier: it, and 24 zero bytes
abbrev pub decide_check : PledgeId → List ℕ
decide_check id = id.0 ++ replicate 24 0

-- a row that `decide` opens with
abbrev pub decide_row : PledgeId → PledgeId × List ℕ
decide_row id = (id, decide_check id)

-- what is printed where an answer was just decided
abbrev pub granted_of : Last → Outcome
granted_of (last.Grant address until) = outcome.Grant address until
granted_of (last.Refuse code) = outcome.Refuse code

-- what is printed where the last answer is repeated
abbrev pub again_of : Last → Outcome
again_of (last.Grant address until) = outcome.AgainGrant address until
again_of (last.Refuse code) = outcome.AgainRefuse code

-- the outcome of what a context's request is due
abbrev pub IsOutcome : List Entry → ℕ → Due → Outcome → Type 0
IsOutcome h c (Add (entry.Grant time context number address until)) o = o ≡ outcome.Grant address until
IsOutcome h c (Add (entry.Refuse time context number why)) o = o ≡ outcome.Refuse (code_of why)
IsOutcome h c (Add _) o = ⊥
IsOutcome h c Again o = (answer : Last) × IsLastAnswer h c answer × (o ≡ again_of answer)
IsOutcome h c (Quiet why) o = o ≡ outcome.Quiet why

-- the entries that are added
abbrev pub added_entries : Due → List Entry
added_entries (Add e) = e ∷ []
added_entries Again = []
added_entries (Quiet why) = []

-- where an entry is due there is room for it
abbrev pub HasPlace : List Entry → Due → Type 0
HasPlace g (Add e) = length g < entry_limit
HasPlace g _ = ⊤

-- The outcome of a request after the history g, and the entries that it adds. Where the disk failed an entry that is due
-- was added, or nothing was decided.
abbrev pub IsToldRequest : List Entry → ℕ → ℕ → ℕ → Outcome → List Entry → Type 0
IsToldRequest g time c n (outcome.Unsure faults) more = (more ≡ []) ⊎ ((e : Entry) × IsDue g time c n Join (Add e) × (length g < entry_limit) × (more ≡ e ∷ []))
IsToldRequest g time c n (outcome.Full entries) more = (e : Entry) × IsDue g time c n Join (Add e) × (length g ≡ entry_limit) × (entries ≡ entry_limit) × (more ≡ [])
IsToldRequest g time c n o more = (due : Due) × IsDue g time c n Join due × HasPlace g due × IsOutcome g c due o × (more ≡ added_entries due)

-- ---- over a disk

-- where a run is: its history, how many of its entries are durable, and its disk
pub record Standing (D : Type 0) : Type 0 where
  pub history : List Entry
  pub durable : ℕ
  pub disk : D

-- Each image that a crash may leave has at least the durable entries of the history.
abbrev pub IsSafe : {D : Type 0} → Ghosts D → Standing D → Type 0
IsSafe ghosts point = IsTrue (ghosts.tells point.disk)
    → (image : Areas) → ghosts.may_leave point.disk image → HasPrefix point.durable point.history image

-- What became durable. Where the disk failed its count of faults rose to this; a batch before is pending, and nothing was
-- decided, or the entry is pending after all that was there. At every other outcome the whole history is durable.
abbrev pub HasDurability : {D : Type 0} → Ghosts D → Standing D → Outcome → List Entry → Standing D → Type 0
HasDurability ghosts old (outcome.Unsure faults) [] new = Rose (ghosts.fault_count old.disk) faults × (faults ≡ ghosts.fault_count new.disk)
    × (old.durable < length old.history) × (new.durable ≡ old.durable)
HasDurability ghosts old (outcome.Unsure faults) (e ∷ more) new = Rose (ghosts.fault_count old.disk) faults × (faults ≡ ghosts.fault_count new.disk)
    × (new.durable ≡ length old.history)
HasDurability ghosts old o more new = new.durable ≡ length new.history

-- a request was answered: what was reported, and what a crash at any moment of it leaves
pub record IsAnswered {D : Type 0} (ghosts : Ghosts D) (old : Standing D) (time c n : ℕ) (o : Outcome) (new : Standing D) : Type 0 where
  pub more : List Entry
  pub told : IsToldRequest old.history time c n o more
  pub history : new.history ≡ old.history ++ more
  pub legal : IsLegal new.history
  pub settled : HasDurability ghosts old o more new
  pub counted : ghosts.fault_count old.disk ≤ ghosts.fault_count new.disk
  pub safe : IsSafe ghosts new
  pub any_moment : IsTrue (ghosts.tells old.disk)
      → LeavesOnly ghosts.moment ghosts.left_since old.disk new.disk (HasPrefix old.durable new.history)
  pub tells : ghosts.tells new.disk ≡ ghosts.tells old.disk

-- What a line does to a run, and its outcomes: none at a skipped line, and one at a request.
abbrev pub IsToldLine : {D : Type 0} → Ghosts D → Standing D → Line → List Outcome → Standing D → Type 0
IsToldLine ghosts old Skipped outcomes new = (outcomes ≡ []) × (new ≡ old)
IsToldLine ghosts old (Ask time id number) outcomes new = (context : ℕ) × (o : Outcome)
    × Contains old.history (entry.Enroll context id (decide_check id)) × IsAnswered ghosts old time context number o new × (outcomes ≡ o ∷ [])

-- what lines do to a run, one after another, and their outcomes in order
abbrev pub IsTold : {D : Type 0} → Ghosts D → Standing D → List Line → List Outcome → Standing D → Type 0
IsTold {D} ghosts old [] outcomes new = (outcomes ≡ []) × (new ≡ old)
IsTold {D} ghosts old (line ∷ lines) outcomes new = (between : Standing D) × (first rest : List Outcome)
    × IsToldLine ghosts old line first between × IsTold ghosts between lines rest new × (outcomes ≡ first ++ rest)

-- The history grew by what may follow, nothing that was durable was lost, and a crash at any moment between leaves a prefix of
-- the history, with all that was durable.
pub record AreMoments {D : Type 0} (ghosts : Ghosts D) (old new : Standing D) : Type 0 where
  pub more : List Entry
  pub history : new.history ≡ old.history ++ more
  pub legal : IsLegal new.history
  pub least : old.durable ≤ new.durable
  pub most : new.durable ≤ length new.history
  pub any_moment : IsTrue (ghosts.tells old.disk)
      → LeavesOnly ghosts.moment ghosts.left_since old.disk new.disk (HasPrefix old.durable new.history)
  pub tells : ghosts.tells new.disk ≡ ghosts.tells old.disk
