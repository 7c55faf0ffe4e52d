-- The summary of a history: all that later decisions need of it.
use Rattle.std.specs.Prelude.{◌≡◌, ◌↔◌, ◌⊎◌, ℕ, ◌+◌, ◌-◌, ◌^◌, ◌<◌, ◌≤◌, ⊤, List, [], ◌∷◌, Option, Some, None, All, Any, Contains, fold, length, get_or}
use Rattle.std.specs.Int.{w64, from_be_bytes, bit_at}
use Rattle.key_sets.specs.declared.phase.Phase.{Phase}
use Rattle.edge_traits.specs.declared.names.PledgeId.{PledgeId}
use Rattle.journal_text.specs.declared.settings.Settings.{Settings}
use Rattle.journal_text.specs.declared.summary.SumRequest.{SumRequest}
use Rattle.journal_text.specs.declared.summary.SumContext.{SumContext}
use Rattle.journal_text.specs.declared.summary.SumGrant.{SumGrant}
use Rattle.journal_text.specs.declared.summary.SumNode.{SumNode}
use Rattle.journal_text.specs.declared.summary.RegSummary.{RegSummary}
use Rattle.journal_text.specs.declared.entry.Entry.{Entry}
use Rattle.journal_text.specs.declared.entry.Entry.TheVariants.{Settings as SettingsEntry, Enroll, Grant}
use Rattle.join_history.specs.Limits.{window_size, grace}
use Rattle.join_history.specs.Last.{IsLast}
use Rattle.join_history.specs.Times.{time_of, last_time}
use Rattle.join_history.specs.Contexts.{pledge_of, context_count}
use Rattle.join_history.specs.Decisions.{IsDecision, HasNumber, IsLastDecision}
use Rattle.join_history.specs.Leases.{IsGrantTo, IsInEffect}
use Rattle.join_history.specs.Blocks.{block_end}
use Rattle.join_history.specs.Phases.{phase}
use Rattle.join_history.specs.Epochs.{Has, IsStaleFor}
use Rattle.join_history.specs.Answers.{IsAnswer}

-- what a summary says
pub record Summary : Type 0 where
  pub time : ℕ
  pub settings : Option (ℕ × Settings)
  pub phase : Phase
  pub contexts : List SumContext
  pub grants : List SumGrant
  pub nodes : List SumNode

-- what the summary of the code says
abbrev pub said_by : RegSummary → Summary
said_by s = record {
  time = s.time;
  settings = s.settings;
  phase = s.phase;
  contexts = s.contexts.items;
  grants = s.grants.items;
  nodes = s.nodes.items;
}

-- each element comes before all that follow it
abbrev pub Ascends : {X : Type 0} (Before : X → X → Type 0) → List X → Type 0
Ascends Before [] = ⊤
Ascends Before (x ∷ xs) = All (Before x) xs × Ascends Before xs

-- the settings of an entry with its time, or else those before it
abbrev pub timed_settings_after : Option (ℕ × Settings) → Entry → Option (ℕ × Settings)
timed_settings_after before (SettingsEntry time settings) = Some (time, settings)
timed_settings_after before _ = before

-- the last Settings entry
abbrev pub timed_settings : List Entry → Option (ℕ × Settings)
timed_settings h = fold timed_settings_after None h

-- what is kept of the requests of a context that had some
pub record IsSumRequest (h : List Entry) (c : ℕ) (r : SumRequest) : Type 0 where
  pub greatest : HasNumber h c r.greatest
  pub at_most : (n : ℕ) → HasNumber h c n → n ≤ r.greatest
  pub window : (i : ℕ) → i < window_size → (bit_at r.window i ≡ 1) ↔ ((i ≤ r.greatest) × HasNumber h c (r.greatest - i))
  pub window_fits : r.window < 2 ^ window_size
  pub decision : Entry
  pub last : IsLastDecision h c decision
  pub number : IsDecision c r.number decision
  pub time : time_of decision ≡ Some r.time
  pub answer : IsAnswer h c r.number r.answer.items

-- what is kept of the requests of a context
abbrev pub AreSumRequests : List Entry → ℕ → Option SumRequest → Type 0
AreSumRequests h c None = (n : ℕ) → HasNumber h c n → ⊥
AreSumRequests h c (Some r) = IsSumRequest h c r

-- what is kept of a context
pub record IsSumContext (h : List Entry) (c : ℕ) (x : SumContext) : Type 0 where
  pub enrolled : Contains h (Enroll c x.id x.check)
  pub end : x.end ≡ block_end h c
  pub requests : AreSumRequests h c x.last

-- a Grant that is in effect, and whose address is held at the last time
pub record IsSumGrant (h : List Entry) (x : SumGrant) : Type 0 where
  pub time : ℕ
  pub context : ℕ
  pub number : ℕ
  pub effect : IsInEffect h x.id (Grant time context number x.address x.until)
  pub pledge : pledge_of h context ≡ Some x.id
  pub held : last_time h < x.until + grace

-- by address, then by identifier, then by end
abbrev pub IsGrantBefore : SumGrant → SumGrant → Type 0
IsGrantBefore x y = (x.address < y.address) ⊎ ((x.address ≡ y.address)
    × ((from_be_bytes w64 x.id.0 < from_be_bytes w64 y.id.0) ⊎ ((x.id ≡ y.id) × (x.until < y.until))))

-- the greatest number that has the property, or 0 where none has it
pub record IsGreatest (P : ℕ → Type 0) (n : ℕ) : Type 0 where
  pub holds : (n ≡ 0) ⊎ P n
  pub at_most : (m : ℕ) → P m → m ≤ n

-- the address and the end of a Grant in effect; both are 0 where it was released
abbrev pub IsNodeLease : List Entry → SumNode → Entry → Type 0
IsNodeLease h x (Grant time context number address until) =
    (IsInEffect h x.id (Grant time context number address until) × (x.address ≡ address) × (x.until ≡ until))
    ⊎ ((IsInEffect h x.id (Grant time context number address until) → ⊥) × (x.address ≡ 0) × (x.until ≡ 0))
IsNodeLease h x _ = ⊥

-- what is kept of a pledge that had a Grant
pub record IsSumNode (h : List Entry) (x : SumNode) : Type 0 where
  pub time : ℕ
  pub number : ℕ
  pub address : ℕ
  pub until : ℕ
  pub last : IsLast (IsGrantTo h x.id) h (Grant time x.context number address until)
  pub lease : IsNodeLease h x (Grant time x.context number address until)
  pub has : IsGreatest (Has h x.id) x.has
  pub stale : IsGreatest (IsStaleFor h x.id) x.stale

-- by identifier
abbrev pub IsNodeBefore : SumNode → SumNode → Type 0
IsNodeBefore x y = from_be_bytes w64 x.id.0 < from_be_bytes w64 y.id.0

-- the summary of the history
pub record IsSummary (h : List Entry) (s : Summary) : Type 0 where
  pub time : s.time ≡ last_time h
  pub settings : s.settings ≡ timed_settings h
  pub phase_in_force : s.phase ≡ phase h
  pub context_count : length s.contexts ≡ context_count h
  pub contexts : (c : ℕ) (x : SumContext) → c < length s.contexts → IsSumContext h c (get_or s.contexts c x)
  pub grants_ascend : Ascends IsGrantBefore s.grants
  pub grants : (x : SumGrant) → Contains s.grants x ↔ IsSumGrant h x
  pub nodes_ascend : Ascends IsNodeBefore s.nodes
  pub nodes : (x : SumNode) → Contains s.nodes x → IsSumNode h x
  pub every_node : (p : PledgeId) → Any (IsGrantTo h p) h → (x : SumNode) × Contains s.nodes x × (x.id ≡ p)
