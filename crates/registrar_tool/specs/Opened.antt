-- What opening leaves for the lines of `decide`.
use Rattle.std.specs.Prelude.{◌≡◌, ◌⊎◌, ◌<◌, ◌^◌, ⊤, ℕ, IsTrue, List, [], ◌∷◌, ◌++◌, Some, Contains, length}
use Rattle.std.specs.List.{AllZip, slice_index_or}
use Rattle.edge_traits.specs.declared.disk.Disk.{Ghosts}
use Rattle.edge_traits.specs.declared.names.PledgeId.{PledgeId}
use Rattle.journal_text.specs.declared.settings.Settings.{Settings}
use Rattle.journal_text.specs.declared.entry.Entry.{Entry}
use Rattle.join_history.specs.Leases.{current_settings}
use Rattle.registrar_state.specs.State.{StandsFor}
use Rattle.registrar_book.specs.declared.book.Book.{Book}
use Rattle.registrar_book.specs.Opening.{HasContext}
use Rattle.registrar_book.specs.Books.{log_of, state_of, durable_of, book_disk, IsKept}
use Rattle.tool_text.specs.declared.line.Line.{Line}
use Rattle.tool_text.specs.declared.line.Line.TheVariants.{Skipped, Ask}
use Rattle.registrar_tool.specs.Told.{Standing, decide_row}

-- new is old with the identifier at its end, if it isn't there
abbrev pub AddsOnce : List PledgeId → PledgeId → List PledgeId → Type 0
AddsOnce old id new = (Contains old id × (new ≡ old)) ⊎ ((Contains old id → ⊥) × (new ≡ old ++ id ∷ []))

-- the place of an identifier in the list
abbrev pub IsListedAt : List PledgeId → PledgeId → ℕ → Type 0
IsListedAt ids id place = (place < length ids) × (slice_index_or ids place id ≡ id)

-- each request of the lines is of a listed identifier, and its number fits
abbrev pub AreAskable : List PledgeId → List Line → Type 0
AreAskable ids [] = ⊤
AreAskable ids (Skipped ∷ lines) = AreAskable ids lines
AreAskable ids (Ask time id number ∷ lines) = Contains ids id × (number < 2 ^ 40) × AreAskable ids lines

-- the context of an identifier
abbrev pub HasIdContext : List Entry → PledgeId → ℕ → Type 0
HasIdContext h id context = HasContext h (decide_row id) context

-- where a book is
abbrev pub standing_of : {D : Type 0} {ghosts : Ghosts D} → Book D ghosts → Standing D
standing_of book = record { history = log_of book; durable = durable_of book; disk = book_disk book }

-- decisions may be made by the book: each identifier has its context, and there are settings
pub record IsReady {D : Type 0} {ghosts : Ghosts D} (book : Book D ghosts) (ids : List PledgeId) (contexts : List ℕ) : Type 0 where
  pub stands : StandsFor (state_of book) (log_of book)
  pub enrolled : AllZip (HasIdContext (log_of book)) ids contexts
  pub settings : Settings
  pub current : current_settings (log_of book) ≡ Some settings
  pub kept : IsTrue (ghosts.tells (book_disk book)) → IsKept ghosts.may_leave book
