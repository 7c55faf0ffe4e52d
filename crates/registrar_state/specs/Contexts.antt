-- What the state keeps of the contexts of a history.
use Rattle.std.specs.Prelude.{◌≡◌, ◌↔◌, ℕ, ◌<◌, List, [], ◌∷◌, ◌++◌, Option, Some, None, Contains, length, get_or}
use Rattle.std.specs.Map.{lookup}
use Rattle.std.specs.Str.{bytes_eq}
use Rattle.replay_window.specs.Parts.{StandsFor}
use Rattle.journal_text.specs.declared.entry.Entry.{Entry}
use Rattle.journal_text.specs.declared.entry.Entry.TheVariants.{Enroll}
use Rattle.join_history.specs.Times.{time_of}
use Rattle.join_history.specs.Contexts.{context_count}
use Rattle.join_history.specs.Decisions.{IsDecision, HasNumber, IsLastDecision}
use Rattle.join_history.specs.Blocks.{block_end}
use Rattle.join_history.specs.Answers.{IsAnswer}
use Rattle.registrar_state.specs.declared.contexts.LastRequest.{LastRequest}
use Rattle.registrar_state.specs.declared.contexts.Row.{Row}
use Rattle.registrar_state.specs.Last.{IsTold}

-- the table of contexts: a row for each, in the order of their numbers, how many more fit, and how many memory was reserved for
pub record Table : Type 0 where
  pub rows : List Row
  pub room : ℕ
  pub reserved : ℕ

-- the numbers of the rows by their checks
pub record AreNumbers (rows : List Row) (numbers : List (List ℕ × ℕ)) : Type 0 where
  pub each : (check : List ℕ) (c : ℕ) → lookup (bytes_eq check) numbers ≡ Some c
      → (c < length rows) × ((row : Row) → (get_or rows c row).check ≡ check)
  pub every : (c : ℕ) (row : Row) → c < length rows → lookup (bytes_eq (get_or rows c row).check) numbers ≡ Some c

-- a row has the check
abbrev pub IsRowOf : List Row → List ℕ → ℕ → Type 0
IsRowOf rows check c = (c < length rows) × ((row : Row) → (get_or rows c row).check ≡ check)

-- no row has the check
abbrev pub IsNewCheck : List Row → List ℕ → Type 0
IsNewCheck rows check = (c : ℕ) (row : Row) → c < length rows → (get_or rows c row).check ≡ check → ⊥

-- the list has the numbers that were decided for the context, and no others
abbrev pub AreNumbersOf : List Entry → ℕ → List ℕ → Type 0
AreNumbersOf h c numbers = (n : ℕ) → Contains numbers n ↔ HasNumber h c n

-- what is kept of the last decision of a context
pub record IsLastRequest (h : List Entry) (c : ℕ) (l : LastRequest) : Type 0 where
  pub decision : Entry
  pub last : IsLastDecision h c decision
  pub number : IsDecision c l.number decision
  pub time : time_of decision ≡ Some l.time
  pub answer : IsAnswer h c l.number l.answer.items
  pub told : IsTold decision l.told

-- what is kept of the last decision of a context, where there is one
abbrev pub IsLastOf : List Entry → ℕ → Option LastRequest → Type 0
IsLastOf h c None = (n : ℕ) → HasNumber h c n → ⊥
IsLastOf h c (Some l) = IsLastRequest h c l

-- what is kept of a context
pub record IsRow (h : List Entry) (c : ℕ) (row : Row) : Type 0 where
  pub enrolled : Contains h (Enroll c row.id row.check)
  pub end : row.end ≡ block_end h c
  pub numbers : List ℕ
  pub are_numbers : AreNumbersOf h c numbers
  pub window : StandsFor numbers row.window
  pub last : IsLastOf h c row.last

-- the rows are those of the history's contexts
pub record AreRows (h : List Entry) (rows : List Row) : Type 0 where
  pub count : length rows ≡ context_count h
  pub each : (c : ℕ) (row : Row) → c < length rows → IsRow h c (get_or rows c row)

-- a request was decided: its number was taken into the window, and it is the last one
pub record Decides (number : ℕ) (l : LastRequest) (old new : Row) : Type 0 where
  pub id : new.id ≡ old.id
  pub check : new.check ≡ old.check
  pub end : new.end ≡ old.end
  pub window : (numbers : List ℕ) → StandsFor numbers old.window → StandsFor (numbers ++ number ∷ []) new.window
  pub last : new.last ≡ Some l

-- the block end was set
abbrev pub SetsEnd : ℕ → Row → Row → Type 0
SetsEnd to old new = new ≡ record { id = old.id; check = old.check; end = to; window = old.window; last = old.last }
