-- Legal histories: each entry may follow the entries before it.
use Rattle.std.specs.Prelude.{◌≡◌, ◌+◌, ◌^◌, ◌<◌, ◌≤◌, ◌⊎◌, ℕ, List, ◌∷◌, ◌++◌, Some, length, All, Contains, IfSome}
use Rattle.edge_traits.specs.declared.names.PledgeId.{PledgeId}
use Rattle.journal_text.specs.declared.settings.Settings.{Settings}
use Rattle.journal_text.specs.declared.refusal.Refusal.{Refusal}
use Rattle.journal_text.specs.declared.refusal.Refusal.TheVariants as refusal
use Rattle.journal_text.specs.Codes.{IsReason}
use Rattle.journal_text.specs.declared.entry.Entry.{Entry}
use Rattle.journal_text.specs.declared.entry.Entry.TheVariants.{Settings as SettingsEntry, Enroll, Grant, Refuse, Block, Roll, Given, Stale, Switch, Release}
use Rattle.join_history.specs.Limits.{context_limit, number_end, time_end, block_size, repeat_span, pool_end, hours_limit}
use Rattle.join_history.specs.Times.{time_of, last_time}
use Rattle.join_history.specs.Contexts.{pledge_of, context_count, HasCheck}
use Rattle.join_history.specs.Decisions.{IsFresh, IsDecisionFor}
use Rattle.join_history.specs.Blocks.{block_end}
use Rattle.join_history.specs.Phases.{phase, IsSpreading, IsNextSet}
use Rattle.join_history.specs.Epochs.{Has, IsStaleFor}
use Rattle.join_history.specs.Leases.{current_settings, lease_end, Holds, IsLive, IsDueAddress, HasNoAddress}

-- A pool within 0x0001 to 0xFFFD, and a lease of up to 65535 hours, or 0 for one without end. The rate, the registrar's
-- address and the refused pledges have the widths that a Configuration gives them (RFC 9031, 8.4.2).
pub record IsInRange (settings : Settings) : Type 0 where
  pub first : 1 ≤ settings.first
  pub count : 1 ≤ settings.count
  pub last : settings.first + settings.count ≤ pool_end
  pub hours : settings.hours ≤ hours_limit
  pub rate_fits : IfSome settings.rate (λ rate. rate < 2 ^ 32)
  pub jrc_of_16 : IfSome settings.jrc (λ address. length address ≡ 16)
  pub few_ids : length settings.refused.items ≤ 16
  pub ids_of_8 : All (λ p. length p.0 ≡ 8) settings.refused.items

-- the time isn't before the last one, and fits 40 bits
pub record IsTimely (g : List Entry) (time : ℕ) : Type 0 where
  pub not_before : last_time g ≤ time
  pub fits : time < time_end

-- a request of this context and number may be decided at this time, for this pledge under these settings
pub record MayDecide (g : List Entry) (time context number : ℕ) (pledge : PledgeId) (settings : Settings) : Type 0 where
  pub timely : IsTimely g time
  pub enrolled : pledge_of g context ≡ Some pledge
  pub current : current_settings g ≡ Some settings
  pub number_fits : number < number_end
  pub fresh : IsFresh g context number

-- only a pledge that gets no address is refused for want of one
abbrev pub IsTrueReason : List Entry → ℕ → PledgeId → Refusal → Type 0
IsTrueReason g time pledge why = IsReason why × (why ≡ refusal.NoAddress → HasNoAddress g time pledge)

-- at this time the keys of the epoch are being handed out, and the pledge is live and hasn't them
abbrev pub Lacks : List Entry → ℕ → PledgeId → ℕ → Type 0
Lacks g time pledge epoch = IsTimely g time × IsSpreading (phase g) epoch × ((a : ℕ) × IsLive g time pledge a)
    × (Has g pledge epoch → ⊥)

-- the decision was made more than 600 seconds before
abbrev pub HasAged : Entry → ℕ → Type 0
HasAged e time = (made : ℕ) × (time_of e ≡ Some made) × (made + repeat_span < time)

-- the entry may follow the history g
abbrev pub MayFollow : List Entry → Entry → Type 0
MayFollow g (SettingsEntry time settings) = IsTimely g time × IsInRange settings
MayFollow g (Enroll context id check) = (context ≡ context_count g) × (context < context_limit) × (HasCheck g check → ⊥)
MayFollow g (Grant time context number address until) = (pledge : PledgeId) × (settings : Settings)
    × MayDecide g time context number pledge settings
    × IsDueAddress g time pledge address × (until ≡ lease_end time settings.hours)
MayFollow g (Refuse time context number why) = (pledge : PledgeId) × (settings : Settings)
    × MayDecide g time context number pledge settings × IsTrueReason g time pledge why
MayFollow g (Block context to) = (pledge : PledgeId) × (pledge_of g context ≡ Some pledge)
    × (to ≡ block_end g context + block_size) × (to ≤ number_end)
MayFollow g (Roll time set) = IsTimely g time × IsNextSet (phase g) set
MayFollow g (Given time context number epoch) = (pledge : PledgeId) × (pledge_of g context ≡ Some pledge)
    × Lacks g time pledge epoch × (number < block_end g context)
MayFollow g (Stale time id epoch) = Lacks g time id epoch × (IsStaleFor g id epoch → ⊥)
MayFollow g (Switch time epoch) = IsTimely g time × IsSpreading (phase g) epoch
    × ((p : PledgeId) (a : ℕ) → IsLive g time p a → Has g p epoch ⊎ IsStaleFor g p epoch)
MayFollow g (Release time id) = IsTimely g time × ((a : ℕ) × Holds g time a id)
    × ((e : Entry) → Contains g e → IsDecisionFor g id e → HasAged e time)

-- each entry may follow the entries before it
abbrev pub IsLegal : List Entry → Type 0
IsLegal h = (before : List Entry) (e : Entry) (after : List Entry) → h ≡ before ++ e ∷ after → MayFollow before e
