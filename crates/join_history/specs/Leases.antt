-- Which pledge holds which short address. An address stays held for a grace of 3600 seconds after its lease's end.
use Rattle.std.specs.Prelude.{◌≡◌, ◌≢◌, ◌==◌, if◌then◌else◌, ℕ, ◌+◌, ◌-◌, ◌*◌, ◌^◌, ◌<◌, ◌≤◌, ◌⊎◌, List, ◌∷◌, ◌++◌, Option, Some, None, All, fold}
use Rattle.edge_traits.specs.declared.names.PledgeId.{PledgeId}
use Rattle.journal_text.specs.declared.settings.Settings.{Settings}
use Rattle.journal_text.specs.declared.entry.Entry.{Entry}
use Rattle.journal_text.specs.declared.entry.Entry.TheVariants.{Settings as SettingsEntry, Grant, Release}
use Rattle.join_history.specs.Limits.{grace}
use Rattle.join_history.specs.Last.{IsLast}
use Rattle.join_history.specs.Contexts.{pledge_of}

-- the settings of an entry, or else those before it
abbrev pub settings_after : Option Settings → Entry → Option Settings
settings_after before (SettingsEntry time settings) = Some settings
settings_after before _ = before

-- the settings of the last Settings entry
abbrev pub current_settings : List Entry → Option Settings
current_settings h = fold settings_after None h

-- The second at which a lease of `hours` hours ends that begins at this time. With 0 hours it has no end.
abbrev pub lease_end : ℕ → ℕ → ℕ
lease_end time hours = if hours == 0 then 2 ^ 64 - 1 else time + 3600 * hours

-- the entry is a Grant to the pledge
abbrev pub IsGrantTo : List Entry → PledgeId → Entry → Type 0
IsGrantTo h p (Grant time context number address until) = pledge_of h context ≡ Some p
IsGrantTo h p _ = ⊥

-- the entry is a Release of the pledge
abbrev pub IsReleaseOf : PledgeId → Entry → Type 0
IsReleaseOf p (Release time id) = id ≡ p
IsReleaseOf p _ = ⊥

-- the entry is in the history, and no Release of the pledge comes after it
pub record IsInEffect (h : List Entry) (p : PledgeId) (e : Entry) : Type 0 where
  pub before : List Entry
  pub after : List Entry
  pub place : h ≡ before ++ e ∷ after
  pub none_since : All (λ x. IsReleaseOf p x → ⊥) after

-- At t the pledge holds the address: some Grant of it to the pledge is in effect, and ends less than 3600 seconds before
-- t, or later.
abbrev pub Holds : List Entry → ℕ → ℕ → PledgeId → Type 0
Holds h t a p = (time context number until : ℕ) × IsInEffect h p (Grant time context number a until)
    × (pledge_of h context ≡ Some p) × (t < until + grace)

-- the entry gives the pledge a lease, or takes its leases back
abbrev pub IsLeaseOf : List Entry → PledgeId → Entry → Type 0
IsLeaseOf h p e = IsGrantTo h p e ⊎ IsReleaseOf p e

-- At t the pledge's lease is live: its last Grant is of this address, is in effect and ends after t.
abbrev pub IsLive : List Entry → ℕ → PledgeId → ℕ → Type 0
IsLive h t p a = (time context number until : ℕ)
    × IsLast (IsLeaseOf h p) h (Grant time context number a until) × (t < until)

abbrev pub IsNotLive : List Entry → ℕ → PledgeId → Type 0
IsNotLive h t p = (a : ℕ) → IsLive h t p a → ⊥

-- the address is one of the pool in the current settings
abbrev pub IsInPool : List Entry → ℕ → Type 0
IsInPool h a = (s : Settings) × (current_settings h ≡ Some s) × (s.first ≤ a) × (a < s.first + s.count)

-- another pledge holds the address at t
abbrev pub IsHeldByAnother : List Entry → ℕ → ℕ → PledgeId → Type 0
IsHeldByAnother h t a p = (q : PledgeId) × (q ≢ p) × Holds h t a q

-- the least address of the pool that no other pledge holds at t
pub record IsLeastFree (h : List Entry) (t : ℕ) (p : PledgeId) (a : ℕ) : Type 0 where
  pub in_pool : IsInPool h a
  pub free : IsHeldByAnother h t a p → ⊥
  pub least : (b : ℕ) → IsInPool h b → b < a → IsHeldByAnother h t b p

-- other pledges hold each address of the pool at t
abbrev pub IsNoneFree : List Entry → ℕ → PledgeId → Type 0
IsNoneFree h t p = (b : ℕ) → IsInPool h b → IsHeldByAnother h t b p

-- What a Join gets at t: the live address, or else the least free one.
abbrev pub IsDueAddress : List Entry → ℕ → PledgeId → ℕ → Type 0
IsDueAddress h t p a = IsLive h t p a ⊎ (IsNotLive h t p × IsLeastFree h t p a)

-- a Join gets no address at t
abbrev pub HasNoAddress : List Entry → ℕ → PledgeId → Type 0
HasNoAddress h t p = IsNotLive h t p × IsNoneFree h t p
