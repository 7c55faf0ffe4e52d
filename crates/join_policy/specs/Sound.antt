-- What each inventory that was read keeps to.
use Rattle.std.specs.Prelude.{◌+◌, ◌≤◌, ℕ, List, length}
use Rattle.journal_text.specs.declared.settings.Settings.{Settings}
use Rattle.join_policy.specs.Policy.{Policy}
use Rattle.join_policy.specs.Rows.{AreDistinct}

-- a pool within 0x0001 to 0xFFFD, and a lease of up to 65535 hours, or 0 for one without end
pub record IsInRange (settings : Settings) : Type 0 where
  pub first : 1 ≤ settings.first
  pub count : 1 ≤ settings.count
  pub last : settings.first + settings.count ≤ 65534
  pub hours : settings.hours ≤ 65535

-- the document's own fields
pub record IsSoundHead (network : List ℕ) (keys : ℕ) (settings : Settings) : Type 0 where
  pub network_some : 1 ≤ length network
  pub network_most : length network ≤ 16
  pub keys_some : 1 ≤ keys
  pub keys_most : keys ≤ 4
  pub in_range : IsInRange settings

pub record IsSound (policy : Policy) : Type 0 where
  pub head : IsSoundHead policy.network policy.keys policy.settings
  pub few : length policy.rows ≤ 16384
  pub distinct : AreDistinct policy.rows
