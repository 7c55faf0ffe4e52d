-- Which pledge has the keys of which epoch.
use Rattle.std.specs.Prelude.{◌≡◌, ℕ, List, ◌∷◌, ◌++◌, ◌⊎◌, Some, All, Any}
use Rattle.edge_traits.specs.declared.names.PledgeId.{PledgeId}
use Rattle.journal_text.specs.declared.entry.Entry.{Entry}
use Rattle.journal_text.specs.declared.entry.Entry.TheVariants.{Roll, Given, Stale}
use Rattle.join_history.specs.Contexts.{pledge_of}
use Rattle.join_history.specs.Leases.{IsGrantTo}

-- the entry is a Roll of the epoch
abbrev pub IsRollOf : ℕ → Entry → Type 0
IsRollOf epoch (Roll time set) = set.epoch ≡ epoch
IsRollOf epoch _ = ⊥

-- the entry says that the pledge answered an update of the epoch
abbrev pub IsGivenTo : List Entry → PledgeId → ℕ → Entry → Type 0
IsGivenTo h p epoch (Given time context number e) = (pledge_of h context ≡ Some p) × (e ≡ epoch)
IsGivenTo h p epoch _ = ⊥

-- the entry says that the pledge is stale for the epoch
abbrev pub IsStaleOf : PledgeId → ℕ → Entry → Type 0
IsStaleOf p epoch (Stale time id e) = (id ≡ p) × (e ≡ epoch)
IsStaleOf p epoch _ = ⊥

-- a Grant to the pledge comes after a Roll of the epoch
pub record IsGrantedSince (h : List Entry) (p : PledgeId) (epoch : ℕ) : Type 0 where
  pub before : List Entry
  pub roll : Entry
  pub after : List Entry
  pub place : h ≡ before ++ roll ∷ after
  pub is_roll : IsRollOf epoch roll
  pub granted : Any (IsGrantTo h p) after

-- the pledge has the keys of the epoch: a Grant after its Roll brought them, or an update that it answered
abbrev pub Has : List Entry → PledgeId → ℕ → Type 0
Has h p epoch = IsGrantedSince h p epoch ⊎ Any (IsGivenTo h p epoch) h

-- the pledge is stale for the epoch, and no Grant to it came since
pub record IsStaleFor (h : List Entry) (p : PledgeId) (epoch : ℕ) : Type 0 where
  pub before : List Entry
  pub stale : Entry
  pub after : List Entry
  pub place : h ≡ before ++ stale ∷ after
  pub is_stale : IsStaleOf p epoch stale
  pub none_since : All (λ e. IsGrantTo h p e → ⊥) after
