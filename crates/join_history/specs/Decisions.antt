-- The numbers of a context, and which numbers are fresh (RFC 8613, 7.4, over the whole list).
use Rattle.std.specs.Prelude.{◌≡◌, ℕ, ◌+◌, ◌<◌, List, Some, Any}
use Rattle.edge_traits.specs.declared.names.PledgeId.{PledgeId}
use Rattle.journal_text.specs.declared.entry.Entry.{Entry}
use Rattle.journal_text.specs.declared.entry.Entry.TheVariants.{Grant, Refuse}
use Rattle.join_history.specs.Limits.{window_size}
use Rattle.join_history.specs.Last.{IsLast}
use Rattle.join_history.specs.Contexts.{pledge_of}

-- the entry decides the request of this context and number
abbrev pub IsDecision : ℕ → ℕ → Entry → Type 0
IsDecision c n (Grant time context number address until) = (context ≡ c) × (number ≡ n)
IsDecision c n (Refuse time context number why) = (context ≡ c) × (number ≡ n)
IsDecision c n _ = ⊥

-- the entry decides a request of a context of the pledge
abbrev pub IsDecisionFor : List Entry → PledgeId → Entry → Type 0
IsDecisionFor h p e = (c n : ℕ) × IsDecision c n e × (pledge_of h c ≡ Some p)

-- the number is one of those that were decided for the context
abbrev pub HasNumber : List Entry → ℕ → ℕ → Type 0
HasNumber h c n = Any (IsDecision c n) h

-- The number wasn't decided, and the greatest one that was is less than 32 above it.
pub record IsFresh (h : List Entry) (c n : ℕ) : Type 0 where
  pub unused : HasNumber h c n → ⊥
  pub in_window : (m : ℕ) → HasNumber h c m → m < n + window_size

-- the last entry that decides a request of the context
abbrev pub IsLastDecision : List Entry → ℕ → Entry → Type 0
IsLastDecision h c e = IsLast (λ x. (n : ℕ) × IsDecision c n x) h e
