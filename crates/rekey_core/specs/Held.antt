-- What the holders are: the epochs of each pledge that was written, and for how many more there is
-- room.
use Rattle.std.specs.Prelude.{◌≡◌, ◌≢◌, ℕ, ◌+◌, ◌≤◌, true, List, Option, Some, None, is_some}
use Rattle.std.specs.Map.{lookup}
use Rattle.std.specs.Str.{bytes_eq}
use Rattle.edge_traits.specs.declared.names.PledgeId.{PledgeId}
use Rattle.rekey_core.specs.declared.epochs.Epochs.{Epochs}
use Rattle.rekey_core.specs.Writes.{Write, Has, IsStaleFor, IsGreatest}

pub record Held : Type 0 where
  pub entries : List (List ℕ × Epochs)
  pub room : ℕ

-- the epochs of a pledge that was written
abbrev pub known_of : Held → PledgeId → Option Epochs
known_of held p = lookup (bytes_eq p.0) held.entries

abbrev pub or_none : Option Epochs → Epochs
or_none None = record { has = 0; stale = 0 }
or_none (Some epochs) = epochs

-- the epochs of a pledge
abbrev pub epochs_of : Held → PledgeId → Epochs
epochs_of held p = or_none (known_of held p)

-- the holders stand for the list: each pledge's epochs are the greatest ones
abbrev pub StandsFor : List Write → Held → Type 0
StandsFor writes held = (p : PledgeId) → IsGreatest (Has writes p) (epochs_of held p).has × IsGreatest (IsStaleFor writes p) (epochs_of held p).stale

-- the epoch is one, and not below those of the pledge
abbrev pub IsLatest : Held → PledgeId → ℕ → Type 0
IsLatest held p e = (1 ≤ e) × ((epochs_of held p).has ≤ e) × ((epochs_of held p).stale ≤ e)

-- the epochs of one pledge were set; a new pledge takes one place of the room
pub record Sets (p : PledgeId) (epochs : Epochs) (old new : Held) : Type 0 where
  pub set : known_of new p ≡ Some epochs
  pub others : (q : PledgeId) → q ≢ p → known_of new q ≡ known_of old q
  pub takes_one : old.room ≤ new.room + 1
  pub takes_none : is_some (known_of old p) ≡ true → old.room ≤ new.room
