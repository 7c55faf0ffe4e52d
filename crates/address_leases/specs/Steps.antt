-- What each call does to the leases.
use Rattle.std.specs.Prelude.{◌≡◌, ◌≢◌, ◌↔◌, ℕ, ◌+◌, ◌≤◌, Bool, not, [], ◌∷◌, Some, filter, nat_lt, bytes_eq, length}
use Rattle.std.specs.List.Sorted.{IsPermutation}
use Rattle.edge_traits.specs.declared.names.PledgeId.{PledgeId}
use Rattle.address_leases.specs.declared.grant.Grant.{Grant}
use Rattle.address_leases.specs.Lent.{Lent, last_of, IsLive, IsNotLive}

-- no grant, and room for this many
pub record IsEmpty (room : ℕ) (l : Lent) : Type 0 where
  pub none : l.grants ≡ []
  pub no_lease : (t : ℕ) (p : PledgeId) → IsNotLive l t p
  pub passed : l.passed ≡ 0
  pub fits : l.room ≡ room

-- a grant was given: it is the last one of its pledge
pub record Gives (g : Grant) (old new : Lent) : Type 0 where
  pub grants : IsPermutation (g ∷ old.grants) new.grants
  pub lease : last_of new.lasts g.id ≡ Some g
  pub others : (p : PledgeId) → p ≢ g.id → (t a : ℕ) → old.passed ≤ t → IsLive new t p a ↔ IsLive old t p a
  pub passed : new.passed ≡ old.passed
  pub room : old.room ≡ new.room + 1
  pub total : length new.grants + new.room ≡ length old.grants + old.room

-- the grant holds its address still at t
abbrev pub is_kept : ℕ → Grant → Bool
is_kept t g = nat_lt t (g.until + 3600)

-- the grants that are over at the time were forgotten
pub record Passes (time : ℕ) (old new : Lent) : Type 0 where
  pub grants : IsPermutation (filter (is_kept time) old.grants) new.grants
  pub leases : (t a : ℕ) (p : PledgeId) → time ≤ t → IsLive new t p a ↔ IsLive old t p a
  pub passed : new.passed ≡ time
  pub room : length new.grants + new.room ≡ length old.grants + old.room

abbrev pub is_of_another : PledgeId → Grant → Bool
is_of_another p g = not (bytes_eq g.id.0 p.0)

-- the grants of the pledge were forgotten
pub record Releases (id : PledgeId) (old new : Lent) : Type 0 where
  pub grants : IsPermutation (filter (is_of_another id) old.grants) new.grants
  pub no_lease : (t : ℕ) → old.passed ≤ t → IsNotLive new t id
  pub others : (p : PledgeId) → p ≢ id → (t a : ℕ) → old.passed ≤ t → IsLive new t p a ↔ IsLive old t p a
  pub passed : new.passed ≡ old.passed
  pub room : length new.grants + new.room ≡ length old.grants + old.room
