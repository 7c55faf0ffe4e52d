-- Which pledge holds which address, over a list of grants. An address stays held for 3600 seconds
-- after its lease's end.
use Rattle.std.specs.Prelude.{◌≡◌, ◌≢◌, ℕ, ◌+◌, ◌<◌, ◌≤◌, List, Contains}
use Rattle.edge_traits.specs.declared.names.PledgeId.{PledgeId}
use Rattle.address_leases.specs.declared.grant.Grant.{Grant}

-- at t the pledge holds the address: a grant of it to the pledge ended less than 3600 seconds
-- before t, or ends later
abbrev pub Holds : List Grant → ℕ → ℕ → PledgeId → Type 0
Holds grants t a p = (g : Grant) × Contains grants g × (g.address ≡ a) × (g.id ≡ p) × (t < g.until + 3600)

-- another pledge holds the address at t
abbrev pub IsHeldByAnother : List Grant → ℕ → ℕ → PledgeId → Type 0
IsHeldByAnother grants t a p = (q : PledgeId) × (q ≢ p) × Holds grants t a q

-- the address is one of `count` addresses from `first`
abbrev pub IsInPool : ℕ → ℕ → ℕ → Type 0
IsInPool first count a = (first ≤ a) × (a < first + count)

-- the least address of the pool that no other pledge holds at t
pub record IsLeastFree (grants : List Grant) (first count t : ℕ) (p : PledgeId) (a : ℕ) : Type 0 where
  pub in_pool : IsInPool first count a
  pub free : IsHeldByAnother grants t a p → ⊥
  pub least : (b : ℕ) → IsInPool first count b → b < a → IsHeldByAnother grants t b p

-- other pledges hold each address of the pool at t
abbrev pub IsNoneFree : List Grant → ℕ → ℕ → ℕ → PledgeId → Type 0
IsNoneFree grants first count t p = (b : ℕ) → IsInPool first count b → IsHeldByAnother grants t b p
