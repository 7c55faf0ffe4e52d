-- What is known of the pledges after one more entry.
use Rattle.std.proofs.Common.{refl, ◌≢◌, ◌<◌, ◌≡◌, ◌⊎◌, inl, inr, ℕ, List, [], ◌∷◌, ◌++◌, Some, Any, Contains, get_or, sym, ap, ◌∙◌, subst, arith}
use Rattle.std.specs.Prelude.{None as NoEpochs}
use Rattle.edge_traits.specs.declared.names.PledgeId.{PledgeId}
use Rattle.key_sets.specs.declared.set.KeySet.{KeySet}
use Rattle.key_sets.specs.declared.phase.Phase.{Phase}
use Rattle.key_sets.specs.declared.phase.Phase.TheVariants.{None, Steady, Spreading}
use Rattle.journal_text.specs.declared.entry.Entry.{Entry}
use Rattle.journal_text.specs.declared.entry.Entry.TheVariants.{Settings as SettingsEntry, Enroll, Grant, Refuse, Block, Roll, Given, Stale, Switch, Release}
use Rattle.join_history.specs.Contexts.{pledge_of}
use Rattle.join_history.specs.Leases.{IsGrantTo, IsLeaseOf}
use Rattle.join_history.specs.Phases.{phase, rolled, switched, IsSpreading, IsNextEpoch}
use Rattle.join_history.specs.Legal.{IsLegal, Lacks, MayFollow}
use Rattle.join_history.proofs.LeaseLemmas.{pledge_of-append, one_pledge, IsInEffect-contains}
use Rattle.join_history.proofs.ListLemmas.{Any-from_contains}
use Rattle.join_history.proofs.KeyLemmas.{phase-push, phase_fits}
use Rattle.join_history.proofs.TotalLemmas.{lease_decides}
use Rattle.join_history.proofs.NodeLemmas.{live_granted, spreading_epoch}
use Rattle.join_history.proofs.AlikeLemmas.{spread_newest}
use Rattle.join_history.proofs.NextNodeLemmas.{no_any}
use Rattle.std.specs.Int.{w64, to_be_bytes}
use Rattle.rekey_core.specs.declared.waiter.Waiter.{Waiter}
use Rattle.rekey_core.specs.Queue.{Ends}
use Rattle.rekey_core.specs.Held.{Held, known_of, or_none, epochs_of, IsLatest, Sets}
use Rattle.registrar_state.specs.declared.pledges.LastGrant.{LastGrant}
use Rattle.registrar_state.specs.declared.pledges.Pledges.{Pledges}
use Rattle.registrar_state.specs.LastGrants.{number_of, Replaces, IsLastGrant, AreLastGrants, AreEpochs, AreWaiting, AreQueued, IsOwed}
use Rattle.registrar_state.specs.Pledges.{KnowPledges, IsAside}
use Rattle.registrar_state.proofs.PledgeEpochs.{IsAbout, newest_is_latest, AreEpochs-given, AreEpochs-stale, AreEpochs-other, AreEpochs-empty}
use Rattle.registrar_state.proofs.PledgeGrants.{AreLastGrants-other, AreLastGrants-granted, AreLastGrants-released}
use Rattle.registrar_state.proofs.PledgeWaits.{LeavesPhase, LeavesOthers, queued_removed}

-- the three relations that are known of the pledges
abbrev pub Known : List Entry → List LastGrant → Held → List Waiter → Type 0
Known h grants held queue = AreLastGrants h grants × AreEpochs h held × AreQueued h grants held queue

-- the pledges of other identifiers after a last Grant was put in
others_replaced : (old new : List LastGrant) (x : LastGrant) (p : PledgeId) (held held' : Held) → Replaces old new x → x.id ≡ p
    → ((q : PledgeId) → q ≢ p → epochs_of held' q ≡ epochs_of held q) → LeavesOthers p old new held held'
others_replaced old new x p held held' replaces id epochs = record {
  before = λ y has other. elim (replaces.each y has) [
    | inl same ↦ absurd (other (ap (λ (z : LastGrant). z.id) same ∙ id))
    | inr old_is ↦ old_is.0
  ];
  after = λ y has other. replaces.kept y has (λ same. other (same ∙ id));
  epochs = epochs;
}

-- the phase after an entry that is no Roll and no Switch
abbrev phase_left : (h : List Entry) (e : Entry) → phase (h ++ e ∷ []) ≡ phase h → LeavesPhase h e
phase_left h e same epoch spreading = subst (λ keys. IsSpreading keys epoch) same spreading

-- two epochs that are spread are one
pub one_spread : (keys : Phase) (m n : ℕ) → IsSpreading keys m → IsSpreading keys n → m ≡ n
one_spread keys m n first second = spread_newest keys m first ∙ sym (spread_newest keys n second)

-- after a Grant
pub known_granted : (h : List Entry) (time number : ℕ) (x : LastGrant) (old new : List LastGrant) (held held' : Held) (queue queue' : List Waiter)
    → IsLegal h → MayFollow h (Grant time x.context number x.address x.until) → pledge_of h x.context ≡ Some x.id
    → Replaces old new x → AreEpochs (h ++ Grant time x.context number x.address x.until ∷ []) held'
    → ((q : PledgeId) → q ≢ x.id → epochs_of held' q ≡ epochs_of held q)
    → ((epoch : ℕ) → IsSpreading (phase h) epoch → (epochs_of held' x.id).has ≡ epoch)
    → (n : ℕ) → n ≡ number_of x.id → to_be_bytes w64 n ≡ x.id.0 → Ends n queue queue' → Known h old held queue
    → Known (h ++ Grant time x.context number x.address x.until ∷ []) new held' queue'
known_granted h time number x old new held held' queue queue' legal may owner replaces epochs others has n numbered bytes ends known =
    let e = Grant time x.context number x.address x.until in (
      AreLastGrants-granted h time number x old new legal owner replaces known.0,
      epochs,
      queued_removed h e old new held held' n x.id queue queue' (phase_left h e (phase-push h e)) numbered bytes ends
          (others_replaced old new x x.id held held' replaces refl others)
          (λ epoch spreading y there id some owed. owed.0 (has epoch spreading)) known.2,
    )

-- after a Release
known_released : (h : List Entry) (time : ℕ) (x y : LastGrant) (old new : List LastGrant) (held : Held) (queue queue' : List Waiter) → IsLegal h
    → MayFollow h (Release time x.id) → IsLastGrant h x → y.id ≡ x.id → y.context ≡ x.context → y.address ≡ 0 → y.until ≡ 0
    → Replaces old new y → (n : ℕ) → n ≡ number_of x.id → to_be_bytes w64 n ≡ x.id.0 → Ends n queue queue'
    → Known h old held queue → Known (h ++ Release time x.id ∷ []) new held queue'
known_released h time x y old new held queue queue' legal may last id context address until replaces n numbered bytes ends known =
    let e = Release time x.id in (
      AreLastGrants-released h time x y old new legal last id context address until replaces known.0,
      AreEpochs-other h e held legal (λ q about. elim about [
        | inl granted ↦ granted
        | inr (inl given) ↦ given.1
        | inr (inr stale) ↦ stale.1
      ]) known.1,
      queued_removed h e old new held held n x.id queue queue' (phase_left h e (phase-push h e)) numbered bytes ends
          (others_replaced old new y x.id held held replaces id (λ q other. refl))
          (λ epoch spreading z there same some owed. elim (replaces.each z there) [
            | inl is ↦ let none = ap (λ (v : LastGrant). v.until) is in omega (arith, none, until, some)
            | inr other ↦ other.1 (same ∙ sym id)
          ]) known.2,
    )

-- after an entry that sets epochs at most
pub known_held : (h : List Entry) (e : Entry) (grants : List LastGrant) (held held' : Held) (queue queue' : List Waiter) → IsLegal h
    → ((p : PledgeId) → IsLeaseOf (h ++ e ∷ []) p e → ⊥) → AreEpochs (h ++ e ∷ []) held' → AreQueued (h ++ e ∷ []) grants held' queue'
    → Known h grants held queue → Known (h ++ e ∷ []) grants held' queue'
known_held h e grants held held' queue queue' legal none epochs queued known =
    (AreLastGrants-other h e grants legal none known.0, epochs, queued)

-- the set of the Roll is the one that is spread after it
rolled_epoch : (keys : Phase) (set : KeySet) (epoch : ℕ) → IsNextEpoch keys set.epoch → IsSpreading (rolled keys set) epoch → set.epoch ≡ epoch
rolled_epoch None set epoch next spreading = absurd spreading
rolled_epoch (Steady old) set epoch next spreading = spreading
rolled_epoch (Spreading old new) set epoch next spreading = absurd next

-- after a Roll the queue is that of its epoch
pub known_rolled : (h : List Entry) (time : ℕ) (set : KeySet) (grants : List LastGrant) (held : Held) (queue queue' : List Waiter) → IsLegal h
    → MayFollow h (Roll time set) → AreWaiting grants held set.epoch queue' → Known h grants held queue
    → Known (h ++ Roll time set ∷ []) grants held queue'
known_rolled h time set grants held queue queue' legal may waiting known =
    let e = Roll time set in (
      AreLastGrants-other h e grants legal (λ p lease. elim lease [ inl granted ↦ granted | inr released ↦ released ]) known.0,
      AreEpochs-other h e held legal (λ q about. elim about [
        | inl granted ↦ granted
        | inr (inl given) ↦ given.1
        | inr (inr stale) ↦ stale.1
      ]) known.1,
      λ epoch spreading.
          let now = subst (λ keys. IsSpreading keys epoch) (phase-push h e) spreading in
          subst (λ (n : ℕ). AreWaiting grants held n queue') (rolled_epoch (phase h) set epoch may.1.epoch now) waiting,
    )

-- after an entry that says nothing of a pledge
known_aside : (h : List Entry) (e : Entry) (grants : List LastGrant) (held : Held) (queue : List Waiter) → IsLegal h → MayFollow h e
    → LeavesPhase h e → ((p : PledgeId) → IsLeaseOf (h ++ e ∷ []) p e → ⊥) → ((p : PledgeId) → IsAbout (h ++ e ∷ []) p e → ⊥)
    → Known h grants held queue → Known (h ++ e ∷ []) grants held queue
known_aside h e grants held queue legal may leaves none about known =
    known_held h e grants held held queue queue legal none (AreEpochs-other h e held legal about known.1)
    (λ epoch spreading. known.2 epoch (leaves epoch spreading)) known

-- where neither of two facts holds, and where none of three does
no_lease : {A B : Type 0} → (A → ⊥) → (B → ⊥) → A ⊎ B → ⊥
no_lease not_a not_b (inl a) = not_a a
no_lease not_a not_b (inr b) = not_b b

after_switch : (keys : Phase) (epoch : ℕ) → IsSpreading (switched keys) epoch → ⊥
after_switch None epoch spreading = spreading
after_switch (Steady set) epoch spreading = spreading
after_switch (Spreading old new) epoch spreading = spreading

-- what is known of the pledges stays so after an entry of another kind
pub KnowPledges-aside : (h : List Entry) (e : Entry) (pledges : Pledges) → IsLegal h → MayFollow h e → IsAside e
    → KnowPledges h pledges → KnowPledges (h ++ e ∷ []) pledges
unfolding KnowPledges
KnowPledges-aside h (SettingsEntry time settings) pledges legal may aside known =
    let e = SettingsEntry time settings in
    known_aside h e pledges.grants.items pledges.holders pledges.queue.waiters legal may
    (λ epoch spreading. subst (λ keys. IsSpreading keys epoch) (phase-push h e) spreading)
    (λ p. no_lease (λ g. g) (λ r. r)) (λ p. no_lease (λ g. g) (no_lease (λ x. x.1) (λ y. y.1))) known
KnowPledges-aside h (Enroll context id check) pledges legal may aside known =
    let e = Enroll context id check in
    known_aside h e pledges.grants.items pledges.holders pledges.queue.waiters legal may
    (λ epoch spreading. subst (λ keys. IsSpreading keys epoch) (phase-push h e) spreading)
    (λ p. no_lease (λ g. g) (λ r. r)) (λ p. no_lease (λ g. g) (no_lease (λ x. x.1) (λ y. y.1))) known
KnowPledges-aside h (Refuse time context number why) pledges legal may aside known =
    let e = Refuse time context number why in
    known_aside h e pledges.grants.items pledges.holders pledges.queue.waiters legal may
    (λ epoch spreading. subst (λ keys. IsSpreading keys epoch) (phase-push h e) spreading)
    (λ p. no_lease (λ g. g) (λ r. r)) (λ p. no_lease (λ g. g) (no_lease (λ x. x.1) (λ y. y.1))) known
KnowPledges-aside h (Block context to) pledges legal may aside known =
    let e = Block context to in
    known_aside h e pledges.grants.items pledges.holders pledges.queue.waiters legal may
    (λ epoch spreading. subst (λ keys. IsSpreading keys epoch) (phase-push h e) spreading)
    (λ p. no_lease (λ g. g) (λ r. r)) (λ p. no_lease (λ g. g) (no_lease (λ x. x.1) (λ y. y.1))) known
KnowPledges-aside h (Switch time epoch) pledges legal may aside known =
    let e = Switch time epoch in
    known_aside h e pledges.grants.items pledges.holders pledges.queue.waiters legal may
    (λ other spreading. absurd (after_switch (phase h) other (subst (λ keys. IsSpreading keys other) (phase-push h e) spreading)))
    (λ p. no_lease (λ g. g) (λ r. r)) (λ p. no_lease (λ g. g) (no_lease (λ x. x.1) (λ y. y.1))) known
KnowPledges-aside h _ pledges legal may aside known = absurd aside

-- the epoch that is handed out may be written
pub spread_is_latest : (h : List Entry) (held : Held) (p : PledgeId) (epoch : ℕ) → IsLegal h → AreEpochs h held
    → IsSpreading (phase h) epoch → IsLatest held p epoch
spread_is_latest h held p epoch legal are spreading =
    newest_is_latest h held p epoch legal are (spread_newest (phase h) epoch spreading)
    (spreading_epoch (phase h) epoch (phase_fits h legal) spreading).0

-- the last Grant of a pledge that lacks keys is kept
pub lacking_is_kept : (h : List Entry) (grants : List LastGrant) (time epoch : ℕ) (p : PledgeId) → AreLastGrants h grants
    → Lacks h time p epoch → (x : LastGrant) × Contains grants x × (x.id ≡ p)
lacking_is_kept h grants time epoch p are lacks = are.every p (live_granted h time lacks.2.0 p lacks.2.1)

-- what a Given says of the pledge of its context
pub given_lacks : (h : List Entry) (time context number epoch : ℕ) (p : PledgeId) → MayFollow h (Given time context number epoch)
    → pledge_of h context ≡ Some p → Lacks h time p epoch
given_lacks h time context number epoch p may owner =
    subst (λ q. Lacks h time q epoch) (one_pledge h context may.0 p may.1 owner) may.2

-- after a Given
pub known_given : (h : List Entry) (time context number epoch : ℕ) (p : PledgeId) (grants : List LastGrant) (held held' : Held) (queue queue' : List Waiter)
    → IsLegal h → MayFollow h (Given time context number epoch) → pledge_of h context ≡ Some p
    → Sets p (record { has = epoch; stale = (epochs_of held p).stale }) held held'
    → (n : ℕ) → n ≡ number_of p → to_be_bytes w64 n ≡ p.0 → Ends n queue queue' → Known h grants held queue
    → Known (h ++ Given time context number epoch ∷ []) grants held' queue'
known_given h time context number epoch p grants held held' queue queue' legal may owner sets n numbered bytes ends known =
    let e = Given time context number epoch in
    let spread = (given_lacks h time context number epoch p may owner).1 in
    known_held h e grants held held' queue queue' legal (λ q. no_lease (λ g. g) (λ r. r))
    (AreEpochs-given h time context number epoch p held held' legal may owner sets known.1)
    (queued_removed h e grants grants held held' n p queue queue' (phase_left h e (phase-push h e)) numbered bytes ends
    (record { before = λ x has other. has; after = λ x has other. has; epochs = λ q other. ap or_none (sets.others q other) })
    (λ other spreading x has id some owed.
    owed.0 (ap (λ o. (or_none o).has) sets.set ∙ one_spread (phase h) epoch other spread spreading)) known.2) known

-- after a Stale
pub known_stale : (h : List Entry) (time epoch : ℕ) (p : PledgeId) (grants : List LastGrant) (held held' : Held) (queue queue' : List Waiter)
    → IsLegal h → MayFollow h (Stale time p epoch) → Sets p (record { has = (epochs_of held p).has; stale = epoch }) held held'
    → (n : ℕ) → n ≡ number_of p → to_be_bytes w64 n ≡ p.0 → Ends n queue queue' → Known h grants held queue
    → Known (h ++ Stale time p epoch ∷ []) grants held' queue'
known_stale h time epoch p grants held held' queue queue' legal may sets n numbered bytes ends known =
    let e = Stale time p epoch in
    known_held h e grants held held' queue queue' legal (λ q. no_lease (λ g. g) (λ r. r))
    (AreEpochs-stale h time epoch p held held' legal may sets known.1)
    (queued_removed h e grants grants held held' n p queue queue' (phase_left h e (phase-push h e)) numbered bytes ends
    (record { before = λ x has other. has; after = λ x has other. has; epochs = λ q other. ap or_none (sets.others q other) })
    (λ other spreading x has id some owed.
    owed.1 (ap (λ o. (or_none o).stale) sets.set ∙ one_spread (phase h) epoch other may.0.1 spreading)) known.2) known

pub known_release : (h : List Entry) (time : ℕ) (p : PledgeId) (x y : LastGrant) (old new : List LastGrant) (held : Held) (queue queue' : List Waiter)
    → IsLegal h → MayFollow h (Release time p) → IsLastGrant h x × (x.id ≡ p) → y.id ≡ p → y.context ≡ x.context → y.address ≡ 0
    → y.until ≡ 0 → Replaces old new y → (n : ℕ) → n ≡ number_of p → to_be_bytes w64 n ≡ p.0 → Ends n queue queue'
    → Known h old held queue → Known (h ++ Release time p ∷ []) new held queue'
known_release h time p x y old new held queue queue' legal may (last, is) id context address until replaces n numbered bytes ends known =
    subst (λ q. Known (h ++ Release time q ∷ []) new held queue') is
    (known_released h time x y old new held queue queue' legal (subst (λ q. MayFollow h (Release time q)) (sym is) may) last (id ∙ sym is)
    context address until replaces n (numbered ∙ ap number_of (sym is)) (bytes ∙ ap (λ (q : PledgeId). q.0) (sym is)) ends known)

-- a pledge that may be released had a Grant
pub released_is_granted : (h : List Entry) (time : ℕ) (p : PledgeId) → MayFollow h (Release time p) → Any (IsGrantTo h p) h
released_is_granted h time p may =
    let held = may.1.1 in
    let grant = Grant held.0 held.1 held.2 may.1.0 held.3 in
    Any-from_contains (IsGrantTo h p) h grant (IsInEffect-contains h p grant held.4) held.5

-- nothing is known of a pledge of the empty history
pub known_empty : (held : Held) → ((p : PledgeId) → known_of held p ≡ NoEpochs) → Known [] [] held []
known_empty held none =
    let empty : AreLastGrants [] [] = record {
      ascend = tt;
      each = λ x has. absurd (omega (arith, has.1));
      every = λ p some. absurd (no_any some);
    } in (
      empty,
      AreEpochs-empty held (λ p. ap or_none (none p)),
      λ epoch spreading. absurd spreading,
    )
