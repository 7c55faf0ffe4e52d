-- What a state stands for.
use Rattle.std.specs.Prelude.{◌≡◌, ℕ, ◌≤◌, List, Some}
use Rattle.edge_traits.specs.declared.names.PledgeId.{PledgeId}
use Rattle.journal_text.specs.declared.settings.Settings.{Settings}
use Rattle.journal_text.specs.declared.entry.Entry.{Entry}
use Rattle.join_history.specs.Times.{last_time}
use Rattle.join_history.specs.Contexts.{pledge_of}
use Rattle.join_history.specs.Leases.{current_settings}
use Rattle.join_history.specs.Phases.{phase}
use Rattle.join_history.specs.Legal.{IsLegal, MayFollow}
use Rattle.join_history.specs.Summary.{timed_settings}
use Rattle.registrar_state.specs.Contexts.{AreRows}
use Rattle.registrar_state.specs.Leases.{AreLeases}
use Rattle.registrar_state.specs.Pledges.{KnowPledges, capacity_of}
use Rattle.registrar_state.specs.declared.room.Room.{Room}
use Rattle.registrar_state.specs.declared.state.RegState.{RegState}

-- what the state keeps is what the history says
pub record Knows (state : RegState) (h : List Entry) : Type 0 where
  pub time : state.time ≡ last_time h
  pub settings : state.settings ≡ timed_settings h
  pub keys : state.phase ≡ phase h
  pub rows : AreRows h state.contexts.rows
  pub leases : AreLeases h state.leases
  pub passed : state.leases.passed ≤ last_time h
  pub pledges : KnowPledges h state.pledges

-- the state answers as this history does, which is legal
unfoldable pub StandsFor : RegState → List Entry → Type 0
StandsFor state h = IsLegal h × Knows state h

-- the memory that was reserved for contexts and for pledges
unfoldable pub reserved_of : RegState → ℕ × ℕ
reserved_of state = (state.contexts.reserved, capacity_of state.pledges)

-- the room that is left
unfoldable pub spare_room : RegState → Room
spare_room state = state.room

-- the context is enrolled in a history that the state stands for
abbrev pub IsEnrolled : RegState → ℕ → Type 0
IsEnrolled state context = (h : List Entry) × (p : PledgeId) × StandsFor state h × (pledge_of h context ≡ Some p)

-- a history that the state stands for has settings
abbrev pub HasSettings : RegState → Type 0
HasSettings state = (h : List Entry) × (s : Settings) × StandsFor state h × (current_settings h ≡ Some s)

-- the moment isn't before the last time of a history that the state stands for
abbrev pub IsNow : RegState → ℕ → Type 0
IsNow state t = (h : List Entry) × StandsFor state h × (last_time h ≤ t)

-- the state stands for some history
abbrev pub IsSome : RegState → Type 0
IsSome state = (h : List Entry) × StandsFor state h

-- the entry may follow each history that the state stands for, of which there is one
pub record CanFollow (state : RegState) (e : Entry) : Type 0 where
  pub history : List Entry
  pub stands : StandsFor state history
  pub each : (h : List Entry) → StandsFor state h → MayFollow h e
