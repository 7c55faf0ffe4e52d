-- How the clock of a disk in memory goes on.
use Rattle.std.proofs.Common.{◌≡◌, ℕ}
use Rattle.edge_traits.specs.Disk.{Elapses}
use Rattle.edge_memory.specs.declared.disk.MemDisk.{MemDisk}
use Rattle.edge_memory.specs.Story.{Event, Idle, with_event, recorded}
use Rattle.edge_memory.specs.MemDisk.{story_of, moment_of, left_since_of, may_leave_of}
use Rattle.edge_memory.proofs.Stories.{Goes, elapses, elapses_now}

of_story : (old new : MemDisk) → Goes (story_of old) (story_of new) → Elapses moment_of left_since_of may_leave_of old new
of_story old new goes = record { later = goes.later; nothing_else = goes.nothing_else; keeps = goes.keeps }

-- by a call that changed nothing
pub rested : (old new : MemDisk) (room : ℕ) → story_of new ≡ recorded room Idle (story_of old) → Elapses moment_of left_since_of may_leave_of old new
rested old new room is = of_story old new (elapses (story_of old) (story_of new) room Idle is)

-- by a call that was recorded
pub went_on : (old new : MemDisk) (event : Event) → story_of new ≡ with_event (story_of old) event → Elapses moment_of left_since_of may_leave_of old new
went_on old new event is = of_story old new (elapses_now (story_of old) (story_of new) event is)
