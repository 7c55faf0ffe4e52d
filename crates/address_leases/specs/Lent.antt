-- What the leases are: the grants that are kept, each pledge's last lease, and how many more grants
-- there is room for.
use Rattle.std.specs.Prelude.{◌≡◌, ℕ, ◌<◌, List, Option, Some, None, [], ◌∷◌, ◌⊎◌, if◌then◌else◌}
use Rattle.std.specs.Str.{bytes_eq}
use Rattle.edge_traits.specs.declared.names.PledgeId.{PledgeId}
use Rattle.address_leases.specs.declared.grant.Grant.{Grant}
use Rattle.address_leases.specs.Grants.{IsLeastFree, IsNoneFree}

pub record Lent : Type 0 where
  -- the grants, in no order
  pub grants : List Grant
  -- the last grant to each pledge, as far as it is known
  pub lasts : List Grant
  -- answers are for moments from here on
  pub passed : ℕ
  -- how many more grants fit
  pub room : ℕ

-- the last grant to the pledge
abbrev pub last_of : List Grant → PledgeId → Option Grant
last_of [] p = None
last_of (g ∷ lasts) p = if bytes_eq p.0 g.id.0 then Some g else last_of lasts p

-- at t the pledge's lease is live: its last grant is of this address and ends after t
abbrev pub IsLive : Lent → ℕ → PledgeId → ℕ → Type 0
IsLive l t p a = (g : Grant) × (last_of l.lasts p ≡ Some g) × (g.address ≡ a) × (t < g.until)

abbrev pub IsNotLive : Lent → ℕ → PledgeId → Type 0
IsNotLive l t p = (a : ℕ) → IsLive l t p a → ⊥

-- what a Join of the pledge gets at t from a pool: its live address, or else the least free one
abbrev pub IsAnswer : Lent → ℕ → ℕ → ℕ → PledgeId → Option ℕ → Type 0
IsAnswer l first count t p None = IsNotLive l t p × IsNoneFree l.grants first count t p
IsAnswer l first count t p (Some a) = IsLive l t p a ⊎ (IsNotLive l t p × IsLeastFree l.grants first count t p a)

-- the live address, if any
abbrev pub IsLiveAddress : Lent → ℕ → PledgeId → Option ℕ → Type 0
IsLiveAddress l t p None = IsNotLive l t p
IsLiveAddress l t p (Some a) = IsLive l t p a
