-- What the plain lists are: the grants that are kept, and the last grant to each pledge.
use Rattle.std.specs.Prelude.{◌^◌, ◌≡◌, ◌≢◌, ◌↔◌, ℕ, ◌+◌, ◌<◌, ◌≤◌, Bool, true, false, List, Some, Contains, length, slice_index_or}
use Rattle.std.specs.List.{count_by}
use Rattle.edge_traits.specs.declared.names.PledgeId.{PledgeId}
use Rattle.address_leases.specs.declared.grant.Grant.{Grant}
use Rattle.address_leases.specs.Grants.{IsHeldByAnother}
use Rattle.address_leases.specs.Lent.{last_of}

-- each pledge has one last grant at most, there are no more of them than grants, and both lists
-- have room
pub record ArePlain (grants lasts : List Grant) (room capacity capacity_of_lasts : ℕ) : Type 0 where
  pub one_each : (g : Grant) → Contains lasts g → last_of lasts g.id ≡ Some g
  pub fewer : (test : Grant → Bool) → count_by test lasts ≤ count_by test grants
  pub fits : length grants + room ≤ capacity
  pub lasts_fit : length grants + room ≤ capacity_of_lasts
  pub small : length grants + room < 2 ^ 32

-- at t the grant keeps its address from the pledge
abbrev pub IsAgainst : Grant → ℕ → PledgeId → Type 0
IsAgainst g t p = (g.id ≢ p) × (t < g.until + 3600)

-- the marks say of each address whether another pledge holds it
abbrev pub AreMarks : List Bool → List Grant → ℕ → PledgeId → Type 0
AreMarks marks grants t p = (a : ℕ) → a < 65536 → (slice_index_or marks a false ≡ true) ↔ IsHeldByAnother grants t a p
