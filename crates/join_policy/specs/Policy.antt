-- What an inventory says.
use Rattle.std.specs.Prelude.{ℕ, List}
use Rattle.journal_text.specs.declared.settings.Settings.{Settings}
use Rattle.join_policy.specs.declared.row.Row.{Row}

pub record Policy : Type 0 where
  -- the identifier of the network
  pub network : List ℕ
  -- how many link-layer keys a key set has
  pub keys : ℕ
  -- the first 14 bytes of the address of a node; its short address follows
  pub node_host : List ℕ
  pub settings : Settings
  -- the pledges that may join, in the document's order
  pub rows : List Row
