-- What a summary's nodes say of a legal history: leases, epochs and who is stale.
use Rattle.std.proofs.Common.{◌≡◌, ◌⊎◌, inl, inr, ℕ, ◌<◌, ◌≤◌, List, [], ◌∷◌, ◌++◌, Some, Contains, All, Any, refl, sym, ap, ◌∙◌, subst, arith}
use Rattle.std.proofs.lemmas.List.Elements.{All-contains, Contains-push_cases}
use Rattle.edge_traits.specs.declared.names.PledgeId.{PledgeId}
use Rattle.key_sets.specs.declared.set.KeySet.{KeySet}
use Rattle.key_sets.specs.declared.phase.Phase.{Phase}
use Rattle.key_sets.specs.declared.phase.Phase.TheVariants.{None, Steady, Spreading}
use Rattle.key_sets.specs.Keys.{epoch_of}
use Rattle.journal_text.specs.declared.summary.SumNode.{SumNode}
use Rattle.journal_text.specs.declared.entry.Entry.{Entry}
use Rattle.journal_text.specs.declared.entry.Entry.TheVariants.{Grant, Roll, Given, Stale, Switch}
use Rattle.join_history.specs.Last.{IsLast}
use Rattle.join_history.specs.Contexts.{pledge_of}
use Rattle.join_history.specs.Leases.{IsGrantTo, IsReleaseOf, IsInEffect, IsLeaseOf, IsLive}
use Rattle.join_history.specs.Phases.{phase, phase_after, rolled, switched, IsSpreading, IsNextEpoch}
use Rattle.join_history.specs.Epochs.{IsRollOf, IsGivenTo, IsStaleOf, Has, IsStaleFor}
use Rattle.join_history.specs.Legal.{IsLegal, MayFollow}
use Rattle.join_history.specs.Summary.{IsSumNode}
use Rattle.join_history.proofs.ListLemmas.{Contains-middle, Any-from_contains, All-from_contains, Same, Left, Right, two_places}
use Rattle.join_history.proofs.LastLemmas.{IsLast-unique, IsLast-contains}
use Rattle.join_history.proofs.LegalLemmas.{legal_induction}
use Rattle.join_history.proofs.LeaseLemmas.{granted_lease, pledge_of-append, one_pledge}
use Rattle.join_history.proofs.DecisionLemmas.{one_decision}
use Rattle.join_history.proofs.EpochLemmas.{IsGrantTo-append, Any-append}
use Rattle.join_history.proofs.KeyLemmas.{FitsPhase, phase_fits, phase-push}

-- a last lease that is a Grant is the last Grant
pub last_grant : (h : List Entry) (p : PledgeId) (time c n a until : ℕ)
    → IsLast (IsLeaseOf h p) h (Grant time c n a until) → IsLast (IsGrantTo h p) h (Grant time c n a until)
last_grant h p time c n a until last = record {
  before = last.before;
  after = last.after;
  place = last.place;
  holds = granted_lease h p time c n a until last.holds;
  none_after = All-from_contains (λ x. IsGrantTo h p x → ⊥) last.after
      (λ x has granted. All-contains (λ y. IsLeaseOf h p y → ⊥) last.after x last.none_after has (inl granted));
}

-- a last lease that is a Grant is in effect
pub lease_in_effect : (h : List Entry) (p : PledgeId) (time c n a until : ℕ)
    → IsLast (IsLeaseOf h p) h (Grant time c n a until) → IsInEffect h p (Grant time c n a until)
lease_in_effect h p time c n a until last = record {
  before = last.before;
  after = last.after;
  place = last.place;
  none_since = All-from_contains (λ x. IsReleaseOf p x → ⊥) last.after
      (λ x has released. All-contains (λ y. IsLeaseOf h p y → ⊥) last.after x last.none_after has (inr released));
}

-- a Grant is at one place of a legal history
one_grant_place : (h before after before' after' : List Entry) (time c n a until : ℕ) → IsLegal h
    → h ≡ before ++ Grant time c n a until ∷ after → h ≡ before' ++ Grant time c n a until ∷ after' → before ≡ before'
one_grant_place h before after before' after' time c n a until legal is is' =
    let grant = Grant time c n a until in
    elim (two_places before after before' after' grant grant (sym is ∙ is')) [
      | Same same _ ↦ same
      | Left between left ↦ absurd (one_decision before between after' grant grant c n
          (subst IsLegal (is' ∙ ap (λ l. l ++ grant ∷ after') left) legal) (refl, refl) (refl, refl))
      | Right between right ↦ absurd (one_decision before' between after grant grant c n
          (subst IsLegal (is ∙ ap (λ l. l ++ grant ∷ after) right) legal) (refl, refl) (refl, refl))
    ]

pub same_after : (before after after' : List Entry) (x : Entry) → before ++ x ∷ after ≡ before ++ x ∷ after' → after ≡ after'
same_after [] after after' x is = cc
same_after (y ∷ before) after after' x is = let rest : before ++ x ∷ after ≡ before ++ x ∷ after' = cc in same_after before after after' x rest

-- the last Grant, if it is in effect, is the last lease
pub last_lease : (h : List Entry) (p : PledgeId) (time c n a until : ℕ) → IsLegal h
    → IsLast (IsGrantTo h p) h (Grant time c n a until) → IsInEffect h p (Grant time c n a until)
    → IsLast (IsLeaseOf h p) h (Grant time c n a until)
last_lease h p time c n a until legal last effect =
    let grant = Grant time c n a until in
    let prefix = one_grant_place h effect.before effect.after last.before last.after time c n a until legal effect.place last.place in
    let is : last.before ++ grant ∷ effect.after ≡ last.before ++ grant ∷ last.after =
    ap (λ l. l ++ grant ∷ effect.after) (sym prefix) ∙ sym effect.place ∙ last.place in
    let back = same_after last.before effect.after last.after grant is in
    let none = subst (All (λ x. IsReleaseOf p x → ⊥)) back effect.none_since in record {
      before = last.before;
      after = last.after;
      place = last.place;
      holds = inl last.holds;
      none_after = All-from_contains (λ x. IsLeaseOf h p x → ⊥) last.after (λ x has lease. elim lease [
        | inl granted ↦ All-contains (λ y. IsGrantTo h p y → ⊥) last.after x last.none_after has granted
        | inr released ↦ All-contains (λ y. IsReleaseOf p y → ⊥) last.after x none has released
      ]);
    }

-- what a node says of a last lease that is a Grant
pub record LeaseIsNode (x : SumNode) (c a until : ℕ) : Type 0 where
  pub context : c ≡ x.context
  pub address : a ≡ x.address
  pub end : until ≡ x.until

pub lease_node : (h : List Entry) (x : SumNode) (time c n a until : ℕ) → IsSumNode h x
    → IsLast (IsLeaseOf h x.id) h (Grant time c n a until) → LeaseIsNode x c a until
lease_node h x time c n a until node last =
    let same : Grant node.time x.context node.number node.address node.until ≡ Grant time c n a until =
    IsLast-unique (IsGrantTo h x.id) h (Grant node.time x.context node.number node.address node.until) (Grant time c n a until)
    node.last (last_grant h x.id time c n a until last) in
    elim node.lease [
      | inl lease ↦
          let address : node.address ≡ a = cc (same) in
          let end : node.until ≡ until = cc (same) in
          let context : c ≡ x.context = cc (same) in record {
            context = context;
            address = sym address ∙ sym lease.1;
            end = sym end ∙ sym lease.2;
          }
      | inr released ↦ absurd (released.0 (subst (IsInEffect h x.id) (sym same) (lease_in_effect h x.id time c n a until last)))
    ]

-- the lease of a node that has an end
pub record NodeHasLease (h : List Entry) (x : SumNode) : Type 0 where
  pub time : ℕ
  pub number : ℕ
  pub last : IsLast (IsLeaseOf h x.id) h (Grant time x.context number x.address x.until)

pub node_lease : (h : List Entry) (x : SumNode) (t : ℕ) → IsLegal h → IsSumNode h x → t < x.until → NodeHasLease h x
node_lease h x t legal node later = elim node.lease [
  | inl lease ↦
      let last = last_lease h x.id node.time x.context node.number node.address node.until legal node.last lease.0 in
      let moved = subst (λ (a : ℕ). IsLast (IsLeaseOf h x.id) h (Grant node.time x.context node.number a node.until)) (sym lease.1) last in
      record {
        time = node.time;
        number = node.number;
        last = subst (λ (u : ℕ). IsLast (IsLeaseOf h x.id) h (Grant node.time x.context node.number x.address u)) (sym lease.2) moved;
      }
  | inr released ↦ let none = released.2 in absurd (omega (arith, none, later))
]

-- a live pledge has a Grant
pub live_granted : (h : List Entry) (t a : ℕ) (p : PledgeId) → IsLive h t p a → Any (IsGrantTo h p) h
live_granted h t a p (time, c, n, until, last, later) =
    let grant = Grant time c n a until in
    Any-from_contains (IsGrantTo h p) h grant (IsLast-contains (IsLeaseOf h p) h grant last)
    (granted_lease h p time c n a until last.holds)

-- the entry speaks of this epoch
abbrev pub SpeaksOf : ℕ → Entry → Type 0
SpeaksOf epoch (Roll time set) = set.epoch ≡ epoch
SpeaksOf epoch (Given time context number e) = e ≡ epoch
SpeaksOf epoch (Stale time id e) = e ≡ epoch
SpeaksOf epoch _ = ⊥

-- an epoch from 1 up to the newest one
abbrev pub IsEpoch : Phase → ℕ → Type 0
IsEpoch keys epoch = (1 ≤ epoch) × (epoch ≤ epoch_of keys)

pub spreading_epoch : (keys : Phase) (epoch : ℕ) → FitsPhase keys → IsSpreading keys epoch → IsEpoch keys epoch
spreading_epoch None epoch fits spreading = absurd spreading
spreading_epoch (Steady set) epoch fits spreading = absurd spreading
spreading_epoch (Spreading old new) epoch fits spreading = (omega (arith, spreading, fits.2), omega (arith, spreading))

-- no entry lowers the epoch
rolled_raises : (before : Phase) (set : KeySet) → IsNextEpoch before set.epoch → epoch_of before ≤ epoch_of (rolled before set)
rolled_raises None set next = omega arith
rolled_raises (Steady old) set next = omega (arith, next)
rolled_raises (Spreading old new) set next = absurd next

switched_keeps : (before : Phase) → epoch_of before ≤ epoch_of (switched before)
switched_keeps None = omega arith
switched_keeps (Steady set) = omega arith
switched_keeps (Spreading old new) = omega arith

epoch_rises : (h : List Entry) (e : Entry) → MayFollow h e → epoch_of (phase h) ≤ epoch_of (phase_after (phase h) e)
epoch_rises h (Roll time set) may = rolled_raises (phase h) set may.1.epoch
epoch_rises h (Switch time epoch) may = switched_keeps (phase h)
epoch_rises h _ may = omega arith

rolled_epoch : (before : Phase) (set : KeySet) → IsNextEpoch before set.epoch → IsEpoch (rolled before set) set.epoch
rolled_epoch None set next = (omega (arith, next), omega arith)
rolled_epoch (Steady old) set next = (omega (arith, next), omega arith)
rolled_epoch (Spreading old new) set next = absurd next

entry_epoch : (h : List Entry) (e : Entry) (epoch : ℕ) → IsLegal h → MayFollow h e → SpeaksOf epoch e
    → IsEpoch (phase_after (phase h) e) epoch
entry_epoch h (Roll time set) epoch legal may is =
    subst (IsEpoch (rolled (phase h) set)) is (rolled_epoch (phase h) set may.1.epoch)
entry_epoch h (Given time context number e) epoch legal may is =
    subst (IsEpoch (phase h)) is (spreading_epoch (phase h) e (phase_fits h legal) may.2.1)
entry_epoch h (Stale time id e) epoch legal may is =
    subst (IsEpoch (phase h)) is (spreading_epoch (phase h) e (phase_fits h legal) may.0.1)
entry_epoch h _ epoch legal may is = absurd is

-- each epoch that a legal history speaks of is from 1 up to the newest one
pub epoch_in_range : (h : List Entry) (e : Entry) (epoch : ℕ) → IsLegal h → Contains h e → SpeaksOf epoch e
    → IsEpoch (phase h) epoch
epoch_in_range h e epoch legal has is =
    legal_induction (λ h. (e : Entry) (epoch : ℕ) → Contains h e → SpeaksOf epoch e → IsEpoch (phase h) epoch)
    (λ e epoch has is. absurd (omega (arith, has.1)))
    (λ h e legal may so_far x epoch has is. elim (Contains-push_cases h e x has) [
      | inl old ↦
          let before = so_far x epoch old is in
          let rises = epoch_rises h e may in
          subst (λ keys. IsEpoch keys epoch) (sym (phase-push h e)) (before.0, omega (arith, before.1, rises))
      | inr new ↦ subst (λ keys. IsEpoch keys epoch) (sym (phase-push h e))
          (entry_epoch h e epoch legal may (subst (SpeaksOf epoch) (sym new) is))
    ]) h legal e epoch has is

roll_speaks : (epoch : ℕ) (e : Entry) → IsRollOf epoch e → SpeaksOf epoch e
roll_speaks epoch (Roll time set) is = is
roll_speaks epoch _ is = absurd is

given_speaks : (h : List Entry) (p : PledgeId) (epoch : ℕ) (e : Entry) → IsGivenTo h p epoch e → SpeaksOf epoch e
given_speaks h p epoch (Given time context number e) is = is.1
given_speaks h p epoch _ is = absurd is

stale_speaks : (p : PledgeId) (epoch : ℕ) (e : Entry) → IsStaleOf p epoch e → SpeaksOf epoch e
stale_speaks p epoch (Stale time id e) is = is.1
stale_speaks p epoch _ is = absurd is

-- an epoch that a pledge has is from 1 up to the newest one
pub has_epoch : (h : List Entry) (p : PledgeId) (epoch : ℕ) → IsLegal h → Has h p epoch → IsEpoch (phase h) epoch
has_epoch h p epoch legal (inl since) =
    epoch_in_range h since.roll epoch legal
    (subst (λ l. Contains l since.roll) (sym since.place) (Contains-middle since.before since.roll since.after))
    (roll_speaks epoch since.roll since.is_roll)
has_epoch h p epoch legal (inr given) =
    epoch_in_range h given.1 epoch legal (given.0, given.2, given.3) (given_speaks h p epoch given.1 given.4)

-- an epoch for which a pledge is stale is from 1 up to the newest one
pub stale_epoch : (h : List Entry) (p : PledgeId) (epoch : ℕ) → IsLegal h → IsStaleFor h p epoch → IsEpoch (phase h) epoch
stale_epoch h p epoch legal stale =
    epoch_in_range h stale.stale epoch legal
    (subst (λ l. Contains l stale.stale) (sym stale.place) (Contains-middle stale.before stale.stale stale.after))
    (stale_speaks p epoch stale.stale stale.is_stale)

-- an entry that says that the pledge has or lacks keys follows a Grant to it
speaks_after_grant : (h : List Entry) (e : Entry) (p : PledgeId) (epoch : ℕ) → MayFollow h e
    → IsGivenTo (h ++ e ∷ []) p epoch e ⊎ IsStaleOf p epoch e → IsLegal h → Any (IsGrantTo h p) h
speaks_after_grant h (Given time context number e) p epoch may (inl given) legal =
    let same = one_pledge (h ++ Given time context number e ∷ []) context may.0 p
    (pledge_of-append h (Given time context number e ∷ []) context may.0 may.1) given.0 in
    subst (λ q. Any (IsGrantTo h q) h) same (live_granted h time may.2.2.0 may.0 may.2.2.1)
speaks_after_grant h (Given time context number e) p epoch may (inr stale) legal = absurd stale
speaks_after_grant h (Stale time id e) p epoch may (inl given) legal = absurd given
speaks_after_grant h (Stale time id e) p epoch may (inr stale) legal =
    subst (λ q. Any (IsGrantTo h q) h) stale.0 (live_granted h time may.0.2.0 id may.0.2.1)
speaks_after_grant h _ p epoch may (inl given) legal = absurd given
speaks_after_grant h _ p epoch may (inr stale) legal = absurd stale

-- each Given of a legal history is of a context that was enrolled
pub given_enrolled : (h : List Entry) (time context number e : ℕ) → IsLegal h → Contains h (Given time context number e)
    → (p : PledgeId) × (pledge_of h context ≡ Some p)
given_enrolled h time context number e legal has =
    legal_induction (λ h. Contains h (Given time context number e) → (p : PledgeId) × (pledge_of h context ≡ Some p))
    (λ has. absurd (omega (arith, has.1)))
    (λ h x legal may so_far has. elim (Contains-push_cases h x (Given time context number e) has) [
      | inl old ↦ let known = so_far old in (known.0, pledge_of-append h (x ∷ []) context known.0 known.1)
      | inr new ↦
          let given = subst (λ y. MayFollow h y) new may in
          (given.0, pledge_of-append h (x ∷ []) context given.0 given.1)
    ]) h legal has

-- what a Given or a Stale says it said before more followed
spoken_before : (h : List Entry) (e x : Entry) (p : PledgeId) (epoch : ℕ) → IsLegal h → Contains h x
    → IsGivenTo (h ++ e ∷ []) p epoch x ⊎ IsStaleOf p epoch x → IsGivenTo h p epoch x ⊎ IsStaleOf p epoch x
spoken_before h e (Given time context number f) p epoch legal has (inl given) =
    let known = given_enrolled h time context number f legal has in
    let same = one_pledge (h ++ e ∷ []) context known.0 p (pledge_of-append h (e ∷ []) context known.0 known.1) given.0 in
    inl (known.1 ∙ ap (λ x. Some x) same, given.1)
spoken_before h e _ p epoch legal has (inl given) = absurd given
spoken_before h e x p epoch legal has (inr stale) = inr stale

-- a pledge that a Given or a Stale names had a Grant
pub spoken_granted : (h : List Entry) (e : Entry) (p : PledgeId) (epoch : ℕ) → IsLegal h → Contains h e
    → IsGivenTo h p epoch e ⊎ IsStaleOf p epoch e → Any (IsGrantTo h p) h
spoken_granted h e p epoch legal has spoken =
    legal_induction (λ h. (e : Entry) → Contains h e → IsGivenTo h p epoch e ⊎ IsStaleOf p epoch e → Any (IsGrantTo h p) h)
    (λ e has spoken. absurd (omega (arith, has.1)))
    (λ h e legal may so_far x has spoken.
    let longer = Any-append (IsGrantTo h p) (IsGrantTo (h ++ e ∷ []) p) h (e ∷ []) (IsGrantTo-append h (e ∷ []) p) in
    elim (Contains-push_cases h e x has) [
      | inl old ↦ longer (so_far x old (spoken_before h e x p epoch legal old spoken))
      | inr new ↦ longer (speaks_after_grant h e p epoch may
          (subst (λ y. IsGivenTo (h ++ e ∷ []) p epoch y ⊎ IsStaleOf p epoch y) (sym new) spoken) legal)
    ]) h legal e has spoken
