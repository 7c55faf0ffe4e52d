-- What happened to a disk since it was made, and what a crash may leave of it by then.
use Rattle.std.specs.Prelude.{◌≡◌, ℕ, ◌+◌, ◌≤◌, Bool, true, ◌&&◌, nat_le, nat_lt, if◌then◌else◌, List, [], ◌∷◌, ◌++◌, length, take, drop}
use Rattle.edge_traits.specs.Disk.{Areas, bytes_of, Changes, Torn}
use Rattle.edge_traits.specs.declared.names.Area.{Area}
use Rattle.edge_traits.specs.declared.names.Area.TheVariants.{Left, Right}

-- One call: it changed nothing, it wrote these bytes from this place on, or it synced an area.
pub data Event : Type 0 where
  Idle : Event
  Write : Area → ℕ → List ℕ → Event
  Sync : Area → Event

-- the areas when the disk was made, and each call from then on
pub record Story : Type 0 where
  pub first : Areas
  pub events : List Event

abbrev pub with_event : Story → Event → Story
with_event story event = record { first = story.first; events = story.events ++ event ∷ [] }

-- the story after a call, where there was room for this many more calls
abbrev pub recorded : ℕ → Event → Story → Story
recorded room event story = if nat_lt 0 room then with_event story event else story

-- one of two values, by the area
abbrev pub of_area : Area → ℕ → ℕ → ℕ
of_area Left left right = left
of_area Right left right = right

-- ---- what a read gives

-- the bytes with these over them from this place on
abbrev pub overwritten : ℕ → List ℕ → List ℕ → List ℕ
overwritten at bytes old = take at old ++ bytes ++ drop (at + length bytes) old

abbrev pub seen_after : Areas → Event → Areas
seen_after seen Idle = seen
seen_after seen (Write Left at bytes) = record { left = overwritten at bytes seen.left; right = seen.right }
seen_after seen (Write Right at bytes) = record { left = seen.left; right = overwritten at bytes seen.right }
seen_after seen (Sync area) = seen

abbrev pub replayed : Areas → List Event → Areas
replayed seen [] = seen
replayed seen (event ∷ events) = replayed (seen_after seen event) events

-- the write doesn't begin past the end
abbrev pub is_inside : Areas → Event → Bool
is_inside seen Idle = true
is_inside seen (Write area at bytes) = nat_le at (length (bytes_of seen area))
is_inside seen (Sync area) = true

abbrev pub all_inside : Areas → List Event → Bool
all_inside seen [] = true
all_inside seen (event ∷ events) = is_inside seen event && all_inside (seen_after seen event) events

-- ---- what was synced

-- what the last sync of each area left, or what stood there first
abbrev pub settled_after : Areas → Areas → Event → Areas
settled_after seen held Idle = held
settled_after seen held (Write area at bytes) = held
settled_after seen held (Sync Left) = record { left = seen.left; right = held.right }
settled_after seen held (Sync Right) = record { left = held.left; right = seen.right }

abbrev pub settled : Areas → Areas → List Event → Areas
settled seen held [] = held
settled seen held (event ∷ events) = settled (seen_after seen event) (settled_after seen held event) events

-- ---- what a crash may leave

-- What a crash may leave of what it might have left before the call: a write may be torn. A sync rules out what differs
-- in its area from what a read gives.
abbrev pub LeavesAfter : Areas → Event → Areas → Areas → Type 0
LeavesAfter seen Idle held image = image ≡ held
LeavesAfter seen (Write area at bytes) held image = Changes area (Torn at (length bytes)) held image
LeavesAfter seen (Sync area) held image = (image ≡ held) × (bytes_of held area ≡ bytes_of seen area)

abbrev pub Leaves : Areas → Areas → List Event → Areas → Type 0
Leaves seen held [] image = image ≡ held
Leaves seen held (event ∷ events) image = (next : Areas) × LeavesAfter seen event held next × Leaves (seen_after seen event) next events image

-- each area as its last sync among the first calls left it, or as it was made
abbrev pub settled_at : Story → ℕ → Areas
settled_at story moment = settled story.first story.first (take moment story.events)

-- after this many calls
abbrev pub LeavesAt : Story → ℕ → Areas → Type 0
LeavesAt story moment image = Leaves story.first story.first (take moment story.events) image

abbrev pub MayLeave : Story → Areas → Type 0
MayLeave story image = Leaves story.first story.first story.events image

-- at some moment from this one on
abbrev pub LeftSince : Story → ℕ → Areas → Type 0
LeftSince story since image = (moment : ℕ) × (since ≤ moment) × (moment ≤ length story.events) × LeavesAt story moment image
