-- Times in a history, in whole seconds.
use Rattle.std.specs.Prelude.{ℕ, ◌-◌, ◌^◌, max, min, List, Option, Some, None, unwrap_or, fold}
use Rattle.journal_text.specs.declared.entry.Entry.{Entry}
use Rattle.journal_text.specs.declared.entry.Entry.TheVariants.{Settings, Enroll, Grant, Refuse, Block, Roll, Given, Stale, Switch, Release}
use Rattle.join_history.specs.Limits.{time_end}

-- the time of an entry that has one
abbrev pub time_of : Entry → Option ℕ
time_of (Settings time settings) = Some time
time_of (Enroll context id check) = None
time_of (Grant time context number address until) = Some time
time_of (Refuse time context number why) = Some time
time_of (Block context to) = None
time_of (Roll time set) = Some time
time_of (Given time context number epoch) = Some time
time_of (Stale time id epoch) = Some time
time_of (Switch time epoch) = Some time
time_of (Release time id) = Some time

-- the last time in a history, or 0
abbrev pub last_time : List Entry → ℕ
last_time h = fold (λ last e. unwrap_or (time_of e) last) 0 h

-- the moment of a decision that is made when the clock says `now`
abbrev pub moment : List Entry → ℕ → ℕ
moment h now = max (last_time h) (min now (time_end - 1))
