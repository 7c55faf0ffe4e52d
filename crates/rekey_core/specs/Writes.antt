-- What was written of the pledges, the earliest first, and what it says of a pledge and an epoch.
use Rattle.std.specs.Prelude.{◌≡◌, ◌⊎◌, ℕ, ◌<◌, ◌≤◌, List, ◌∷◌, ◌++◌, Contains}
use Rattle.edge_traits.specs.declared.names.PledgeId.{PledgeId}

-- an address was granted while an epoch was the last one; the keys of an epoch were given; the
-- pledge was marked as stale
pub data Write : Type 0 where
  granted : PledgeId → ℕ → Write
  given : PledgeId → ℕ → Write
  stale : PledgeId → ℕ → Write

-- the pledge has the keys of the epoch: a grant came with them, or with later ones, or they were
-- given
abbrev pub Has : List Write → PledgeId → ℕ → Type 0
Has writes p e = ((n : ℕ) × Contains writes (granted p n) × (e ≤ n)) ⊎ Contains writes (given p e)

-- the pledge is stale for the epoch: it was marked so, and no grant to it came since
pub record IsStaleFor (writes : List Write) (p : PledgeId) (e : ℕ) : Type 0 where
  pub before : List Write
  pub after : List Write
  pub place : writes ≡ before ++ stale p e ∷ after
  pub none_since : (n : ℕ) → Contains after (granted p n) → ⊥

-- the greatest number with the property, or 0 where there is none
pub record IsGreatest (P : ℕ → Type 0) (n : ℕ) : Type 0 where
  pub bound : (e : ℕ) → P e → e ≤ n
  pub is_one : 0 < n → P n
