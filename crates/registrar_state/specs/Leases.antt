-- What the leases say of a history.
use Rattle.std.specs.Prelude.{◌≡◌, ◌↔◌, ℕ, ◌+◌, ◌<◌, ◌≤◌, List, Some, Contains}
use Rattle.edge_traits.specs.declared.names.PledgeId.{PledgeId}
use Rattle.address_leases.specs.declared.grant.Grant.{Grant as Lease}
use Rattle.address_leases.specs.Lent as lent
use Rattle.journal_text.specs.declared.entry.Entry.{Entry}
use Rattle.journal_text.specs.declared.entry.Entry.TheVariants.{Grant}
use Rattle.join_history.specs.Limits.{grace}
use Rattle.join_history.specs.Contexts.{pledge_of}
use Rattle.join_history.specs.Leases.{IsInEffect, IsLive}

-- the lease is that of a Grant in effect
pub record IsLease (h : List Entry) (g : Lease) : Type 0 where
  pub time : ℕ
  pub context : ℕ
  pub number : ℕ
  pub effect : IsInEffect h g.id (Grant time context number g.address g.until)
  pub pledge : pledge_of h context ≡ Some g.id

-- The leases are those of the Grants in effect, without some that were over when others were forgotten. From then on a
-- pledge is live exactly where it is live in the history.
pub record AreLeases (h : List Entry) (l : lent.Lent) : Type 0 where
  pub each : (g : Lease) → Contains l.grants g → IsLease h g
  pub every : (g : Lease) → IsLease h g → l.passed < g.until + grace → Contains l.grants g
  pub live : (t a : ℕ) (p : PledgeId) → l.passed ≤ t → lent.IsLive l t p a ↔ IsLive h t p a
