-- What the bytes of an area stand for: a header, open batches, and a closed gate at which the log ends.
use Rattle.std.specs.Prelude.{◌≡◌, ◌≢◌, ◌⊎◌, ◌≤◌, ◌+◌, ℕ, List, [], ◌∷◌, ◌++◌, length}
use Rattle.std.specs.List.{flat_map, AllByRecursion}
use Rattle.edge_traits.specs.Disk.{Areas}
use Rattle.journal_text.specs.declared.entry.Entry.{Entry}
use Rattle.journal_text.specs.Numbers.{number_text}
use Rattle.journal_text.specs.Text.{Fits, entries_text}

-- the header of a new journal: the gate of the area, `6TJRC-1`, generation 1, and the summary of the empty history after its length
abbrev pub first_header : List ℕ
first_header =
    1 ∷ 0x36 ∷ 0x54 ∷ 0x4a ∷ 0x52 ∷ 0x43 ∷ 0x2d ∷ 0x31
    ∷ 0 ∷ 0 ∷ 0 ∷ 0 ∷ 0 ∷ 0 ∷ 0 ∷ 1
    ∷ 0 ∷ 0 ∷ 0 ∷ 22
    ∷ 0 ∷ 0 ∷ 0 ∷ 0 ∷ 0 ∷ 0 ∷ 0 ∷ 0 ∷ 0 ∷ 0 ∷ 0 ∷ 0 ∷ 0 ∷ 0 ∷ 0 ∷ 0 ∷ 0 ∷ 0 ∷ 0 ∷ 0 ∷ 0 ∷ 0
    ∷ []

-- the areas of a journal without entries
abbrev pub empty_journal : Areas
empty_journal = record { left = first_header ++ 0 ∷ []; right = 0 ∷ [] }

-- On the way from two empty areas to these the right one comes first, so a journal is never beside an empty area.
abbrev pub IsOnTheWay : Areas → Type 0
IsOnTheWay image = (image.left ≡ []) ⊎ (image.right ≡ empty_journal.right)

-- 1 to 4096 bytes of whole entries
pub record IsBatch (entries : List Entry) : Type 0 where
  pub some : 1 ≤ length (entries_text entries)
  pub most : length (entries_text entries) ≤ 4096
  pub fit : AllByRecursion Fits entries

-- what comes after the gate of a batch: the length of its entries, and the entries
unfoldable pub body_text : List Entry → List ℕ
body_text entries = number_text 4 (length (entries_text entries)) ++ entries_text entries

-- the same and the next gate, closed
abbrev pub tail_text : List Entry → List ℕ
tail_text entries = body_text entries ++ 0 ∷ []

abbrev pub batch_text : List Entry → List ℕ
batch_text entries = 1 ∷ body_text entries

-- a header and open batches
unfoldable pub prefix_text : List ℕ → List (List Entry) → List ℕ
prefix_text header batches = header ++ flat_map batch_text batches

-- an area is this header, open batches with this log, which end at this place, and these bytes after them
pub record IsRead (header : List ℕ) (end : ℕ) (log : List Entry) (area behind : List ℕ) : Type 0 where
  pub batches : List (List Entry)
  pub whole : AllByRecursion IsBatch batches
  pub holds : log ≡ flat_map (λ entries. entries) batches
  pub text : area ≡ prefix_text header batches ++ behind
  pub ends : end ≡ length (prefix_text header batches)

-- The log of an area, which ends at the closed gate at this place. What comes after that means nothing.
pub record IsLog (header : List ℕ) (end : ℕ) (log : List Entry) (area : List ℕ) : Type 0 where
  pub gate : ℕ
  pub behind : List ℕ
  pub read : IsRead header end log area (gate ∷ behind)
  pub closed : gate ≢ 1

-- The same, where the gate may be open, but only before this batch.
pub record MayHave (header : List ℕ) (end : ℕ) (log entries : List Entry) (area : List ℕ) : Type 0 where
  pub gate : ℕ
  pub behind : List ℕ
  pub read : IsRead header end log area (gate ∷ behind)
  pub before : gate ≡ 1 → (more : List ℕ) × (behind ≡ tail_text entries ++ more)

-- the end of a log with a batch more
abbrev pub end_with : ℕ → List Entry → ℕ
end_with end entries = end + length (tail_text entries)
