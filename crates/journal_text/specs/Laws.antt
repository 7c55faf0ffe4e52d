-- The law of spellings.
use Rattle.std.specs.Prelude.{◌≡◌, ℕ, List, ◌++◌}
use Rattle.journal_text.specs.declared.entry.Entry.{Entry}
use Rattle.journal_text.specs.Text.{Fits, entry_text}

-- Two entries at the start of the same bytes are one. So an entry has one spelling, and none begins another's.
abbrev pub OneSpelling : Type 0
OneSpelling = (e f : Entry) (x y : List ℕ) → Fits e → Fits f → entry_text e ++ x ≡ entry_text f ++ y → (e ≡ f) × (x ≡ y)
