-- What a disk in memory reports.
use Rattle.std.specs.Prelude.{ℕ, ◌<◌, ◌≤◌, List, length, take, Option, None, Some}
use Rattle.edge_traits.specs.Disk.{Areas}
use Rattle.edge_memory.specs.declared.calls.Calls.{Calls}
use Rattle.edge_memory.specs.declared.disk.MemDisk.{MemDisk}
use Rattle.edge_memory.specs.Contents.{areas_of}
use Rattle.edge_memory.specs.CallLog.{events_of}
use Rattle.edge_memory.specs.Story.{Story, Event, Idle, Sync, MayLeave, LeftSince}
use Rattle.edge_memory.specs.Calls.{next_listed, failing_size}
use Rattle.edge_memory.specs.declared.failing.Part.{Part}
use Rattle.edge_memory.specs.declared.failing.Part.TheVariants.{Nothing, Half, All}
use Rattle.edge_traits.specs.declared.names.Area.{Area}

-- what a read gives
abbrev pub seen_of : MemDisk → Areas
seen_of disk = areas_of disk.seen

-- what happened to it since it was made
abbrev pub story_of : MemDisk → Story
story_of disk = record { first = areas_of disk.first; events = events_of disk.log }

-- what a crash may leave now
abbrev pub may_leave_of : MemDisk → Areas → Type 0
may_leave_of disk = MayLeave (story_of disk)

-- how many calls it recorded
abbrev pub moment_of : MemDisk → ℕ
moment_of disk = length (story_of disk).events

-- what a crash at some moment from this one on might have left
abbrev pub left_since_of : MemDisk → ℕ → Areas → Type 0
left_since_of disk = LeftSince (story_of disk)

-- how many calls more it records
abbrev pub calls_left_of : MemDisk → ℕ
calls_left_of disk = disk.log.free

-- how many written bytes more it takes
abbrev pub room_of : MemDisk → ℕ
room_of disk = disk.log.room

-- how many written bytes it recorded
abbrev pub written_of : MemDisk → ℕ
written_of disk = length disk.log.bytes.items

-- there is room to record a write of this many bytes
abbrev pub CanWrite : MemDisk → ℕ → Type 0
CanWrite disk count = (0 < disk.log.free) × (count ≤ disk.log.room)

-- how its calls are numbered
abbrev pub calls_of : MemDisk → Calls
calls_of disk = disk.calls

-- what the next call writes of these bytes where it fails
abbrev pub failing_bytes : MemDisk → List ℕ → List ℕ
failing_bytes disk bytes = take (failing_size (next_listed disk.calls) (length bytes)) bytes

-- what a sync does that fails: all or nothing
abbrev pub failing_sync : Option Part → Area → Event
failing_sync None area = Idle
failing_sync (Some Nothing) area = Idle
failing_sync (Some Half) area = Idle
failing_sync (Some All) area = Sync area
