-- One call of a log, and the event that it stands for.
use Rattle.std.specs.Prelude.{ℕ, ◌+◌, Bool, true, nat_le, List, take, drop}
use Rattle.edge_memory.specs.declared.call_log.Call.{Call}
use Rattle.edge_memory.specs.declared.call_log.Call.TheVariants.{Rested, Wrote, Synced}
use Rattle.edge_memory.specs.Story.{Event, Idle, Write, Sync}

-- its bytes are among the first n of the log
abbrev pub is_logged : ℕ → Call → Bool
is_logged n Rested = true
is_logged n (Wrote area at from len) = nat_le (from + len) n
is_logged n (Synced area) = true

abbrev pub event_of : List ℕ → Call → Event
event_of log Rested = Idle
event_of log (Wrote area at from len) = Write area at (take len (drop from log))
event_of log (Synced area) = Sync area
