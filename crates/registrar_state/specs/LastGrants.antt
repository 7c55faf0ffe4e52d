-- The last Grant of each pledge of a history, who has which epoch, and which pledges are owed keys.
use Rattle.std.specs.Prelude.{◌≡◌, ◌≢◌, ◌⊎◌, ℕ, ◌<◌, ◌≤◌, List, Option, Some, None, Contains, Any, length, get_or, sum_by}
use Rattle.std.specs.Int.{w64, from_be_bytes, to_be_bytes}
use Rattle.edge_traits.specs.declared.names.PledgeId.{PledgeId}
use Rattle.journal_text.specs.declared.summary.SumNode.{SumNode}
use Rattle.journal_text.specs.declared.entry.Entry.{Entry}
use Rattle.journal_text.specs.declared.entry.Entry.TheVariants.{Grant}
use Rattle.join_history.specs.Last.{IsLast}
use Rattle.join_history.specs.Leases.{IsGrantTo}
use Rattle.join_history.specs.Epochs.{Has, IsStaleFor}
use Rattle.join_history.specs.Phases.{phase, IsSpreading}
use Rattle.join_history.specs.Summary.{Ascends, IsGreatest, IsNodeLease}
use Rattle.rekey_core.specs.declared.epochs.Epochs.{Epochs}
use Rattle.rekey_core.specs.Held.{Held, known_of, epochs_of}
use Rattle.rekey_core.specs.declared.waiter.Waiter.{Waiter}
use Rattle.registrar_state.specs.declared.pledges.LastGrant.{LastGrant}

-- the number of an identifier
abbrev pub number_of : PledgeId → ℕ
number_of p = from_be_bytes w64 p.0

-- by identifier
abbrev pub IsBefore : LastGrant → LastGrant → Type 0
IsBefore x y = number_of x.id < number_of y.id

-- the place of the pledge, or the place where it would be
abbrev pub IsPlaceOf : List LastGrant → PledgeId → ℕ → Type 0
IsPlaceOf xs p i = (i < length xs) × ((d : LastGrant) → (get_or xs i d).id ≡ p)

pub record IsGapFor (xs : List LastGrant) (p : PledgeId) (i : ℕ) : Type 0 where
  pub in_range : i ≤ length xs
  pub before : (k : ℕ) (d : LastGrant) → k < i → number_of (get_or xs k d).id < number_of p
  pub after : (k : ℕ) (d : LastGrant) → i ≤ k → k < length xs → number_of p < number_of (get_or xs k d).id

-- The new list has this for its pledge, and for each other pledge what the old list has. The pledge of a place is this one, or
-- had a place in the old list that isn't after it.
pub record Replaces (old new : List LastGrant) (x : LastGrant) : Type 0 where
  pub ascend : Ascends IsBefore new
  pub has : Contains new x
  pub each : (y : LastGrant) → Contains new y → (y ≡ x) ⊎ (Contains old y × (y.id ≢ x.id))
  pub kept : (y : LastGrant) → Contains old y → y.id ≢ x.id → Contains new y
  pub places : (k : ℕ) (d : LastGrant) → k < length new
      → ((get_or new k d).id ≡ x.id) ⊎ ((j : ℕ) × (j ≤ k) × (j < length old) × ((get_or new k d).id ≡ (get_or old j d).id))

-- the list has nothing of the pledge
abbrev pub IsNewIn : List LastGrant → PledgeId → Type 0
IsNewIn xs p = (x : LastGrant) → Contains xs x → x.id ≡ p → ⊥

-- the last Grant of a pledge as part of a summary, with the pledge's epochs
abbrev pub node_of : LastGrant → ℕ → ℕ → SumNode
node_of x has stale = record {
  id = x.id;
  context = x.context;
  address = x.address;
  until = x.until;
  has = has;
  stale = stale;
}

-- the last Grant to the pledge in the history, with its address and end where it is in effect, and with 0 for both where not
pub record IsLastGrant (h : List Entry) (x : LastGrant) : Type 0 where
  pub time : ℕ
  pub number : ℕ
  pub address : ℕ
  pub until : ℕ
  pub last : IsLast (IsGrantTo h x.id) h (Grant time x.context number address until)
  pub lease : IsNodeLease h (node_of x 0 0) (Grant time x.context number address until)

-- the last Grant of each pledge that had one, in the order of identifiers
pub record AreLastGrants (h : List Entry) (grants : List LastGrant) : Type 0 where
  pub ascend : Ascends IsBefore grants
  pub each : (x : LastGrant) → Contains grants x → IsLastGrant h x
  pub every : (p : PledgeId) → Any (IsGrantTo h p) h → (x : LastGrant) × Contains grants x × (x.id ≡ p)

-- the greatest epoch of which each pledge has the keys, and the greatest for which it is stale
abbrev pub AreEpochs : List Entry → Held → Type 0
AreEpochs h held = (p : PledgeId) → IsGreatest (Has h p) (epochs_of held p).has × IsGreatest (IsStaleFor h p) (epochs_of held p).stale

-- the pledge has neither the keys of the epoch nor is it stale for it
abbrev pub IsOwed : Held → ℕ → PledgeId → Type 0
IsOwed held epoch p = ((epochs_of held p).has ≡ epoch → ⊥) × ((epochs_of held p).stale ≡ epoch → ⊥)

-- the pledge in the queue is that of the last Grant, with its end
pub record IsWaiterOf (x : LastGrant) (w : Waiter) : Type 0 where
  pub number : w.number ≡ number_of x.id
  pub until : w.until ≡ x.until
  pub id : to_be_bytes w64 w.number ≡ x.id.0

-- The queue has the pledges that are owed the keys of the epoch, each with the end of its last Grant. Where the end in the
-- queue is 0, the pledge waits no more.
pub record AreWaiting (grants : List LastGrant) (held : Held) (epoch : ℕ) (queue : List Waiter) : Type 0 where
  pub each : (w : Waiter) → Contains queue w → 0 < w.until → (x : LastGrant) × Contains grants x × IsWaiterOf x w × IsOwed held epoch x.id
  pub every : (x : LastGrant) → Contains grants x → 0 < x.until → IsOwed held epoch x.id → (w : Waiter) × Contains queue w × IsWaiterOf x w

-- where an epoch is spread, the queue has the pledges that are owed its keys
abbrev pub AreQueued : List Entry → List LastGrant → Held → List Waiter → Type 0
AreQueued h grants held queue = (epoch : ℕ) → IsSpreading (phase h) epoch → AreWaiting grants held epoch queue

-- 1 for a pledge whose epochs aren't kept yet
abbrev pub one_if_none : Option Epochs → ℕ
one_if_none None = 1
one_if_none (Some epochs) = 0

-- how many of the pledges have no epochs that are kept
abbrev pub unheld : Held → List LastGrant → ℕ
unheld held grants = sum_by (λ x. one_if_none (known_of held x.id)) grants
