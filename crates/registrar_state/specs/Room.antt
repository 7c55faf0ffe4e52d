-- Which room an entry takes.
use Rattle.std.specs.Prelude.{◌≡◌, ◌+◌, ◌<◌}
use Rattle.journal_text.specs.declared.entry.Entry.{Entry}
use Rattle.journal_text.specs.declared.entry.Entry.TheVariants.{Enroll}
use Rattle.registrar_state.specs.declared.room.Room.{Room}

-- there is room for the entry: for a context at an Enroll, else for another entry
abbrev pub HasRoomFor : Room → Entry → Type 0
HasRoomFor room (Enroll context id check) = 0 < room.contexts
HasRoomFor room _ = 0 < room.entries

pub record TakesContext (old new : Room) : Type 0 where
  pub contexts : new.contexts + 1 ≡ old.contexts
  pub entries : new.entries ≡ old.entries

pub record TakesEntry (old new : Room) : Type 0 where
  pub contexts : new.contexts ≡ old.contexts
  pub entries : new.entries + 1 ≡ old.entries

-- the entry took its room, and no more
abbrev pub TakesRoom : Room → Room → Entry → Type 0
TakesRoom old new (Enroll context id check) = TakesContext old new
TakesRoom old new _ = TakesEntry old new
