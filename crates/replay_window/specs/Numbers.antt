-- What the list of the numbers taken so far says of one more number (RFC 8613, 7.4).
use Rattle.std.specs.Prelude.{ℕ, ◌+◌, ◌<◌, ◌≤◌, List, Contains}
use Rattle.replay_window.specs.declared.judged.Judged.{Judged}
use Rattle.replay_window.specs.declared.judged.Judged.TheVariants.{Fresh, Taken, Old}

-- some number of the list is 32 or more above n
abbrev pub IsOld : List ℕ → ℕ → Type 0
IsOld numbers n = (m : ℕ) × Contains numbers m × (n + 32 ≤ m)

-- each number of the list is less than 32 above n
abbrev pub IsInWindow : List ℕ → ℕ → Type 0
IsInWindow numbers n = (m : ℕ) → Contains numbers m → m < n + 32

-- the judgement that the list gives of n
abbrev pub IsJudged : List ℕ → ℕ → Judged → Type 0
IsJudged numbers n Fresh = IsInWindow numbers n × (Contains numbers n → ⊥)
IsJudged numbers n Taken = IsInWindow numbers n × Contains numbers n
IsJudged numbers n Old = IsOld numbers n
