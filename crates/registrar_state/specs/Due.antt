-- What a number of a context is judged to be.
use Rattle.std.specs.Prelude.{ℕ, ◌+◌, ◌<◌, ◌≤◌, List}
use Rattle.replay_window.specs.declared.judged.Judged.{Judged}
use Rattle.replay_window.specs.declared.judged.Judged.TheVariants.{Fresh, Taken, Old}
use Rattle.journal_text.specs.declared.entry.Entry.{Entry}
use Rattle.join_history.specs.Decisions.{HasNumber, IsFresh}

-- the number is fresh, was decided within the window, or is 32 or more below one that was decided
abbrev pub IsJudgedOf : List Entry → ℕ → ℕ → Judged → Type 0
IsJudgedOf h c n Fresh = IsFresh h c n
IsJudgedOf h c n Taken = HasNumber h c n × ((m : ℕ) → HasNumber h c m → m < n + 32)
IsJudgedOf h c n Old = (m : ℕ) × HasNumber h c m × (n + 32 ≤ m)
