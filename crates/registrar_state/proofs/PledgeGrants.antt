-- What one more entry says of the last Grants of the pledges.
use Rattle.std.proofs.Common.{Bool, ltb, IsTrue, get_or, ◌≡◌, ◌⊎◌, inl, inr, ◌↔◌, ℕ, ◌<◌, List, [], ◌∷◌, ◌++◌, Some, Contains, Any, refl, sym, ap, ◌∙◌, subst}
use Rattle.std.proofs.lemmas.Bool.{ltb-true, lt-ltb}
use Rattle.std.proofs.lemmas.List.Elements.{Contains-push_cases}
use Rattle.edge_traits.specs.declared.names.PledgeId.{PledgeId}
use Rattle.journal_text.specs.declared.entry.Entry.{Entry}
use Rattle.journal_text.specs.declared.entry.Entry.TheVariants.{Grant, Release}
use Rattle.join_history.specs.Last.{IsLast}
use Rattle.join_history.specs.Contexts.{pledge_of}
use Rattle.join_history.specs.Leases.{IsGrantTo, IsReleaseOf, IsInEffect, IsLeaseOf, IsLive}
use Rattle.join_history.specs.Epochs.{Has, IsStaleFor}
use Rattle.join_history.specs.Legal.{IsLegal}
use Rattle.join_history.specs.Summary.{IsGreatest, IsSumNode}
use Rattle.join_history.proofs.ListLemmas.{Any-from_contains}
use Rattle.join_history.proofs.LastLemmas.{IsLast-pushed, IsLast-kept}
use Rattle.join_history.proofs.LeaseLemmas.{pledge_decides, pledge_of-append, one_pledge}
use Rattle.join_history.proofs.EpochLemmas.{IsGrantTo-append, IsGrantTo-before}
use Rattle.join_history.proofs.NodeLemmas.{lease_node, node_lease, live_granted}
use Rattle.join_history.proofs.NextLemmas.{IsInEffect-push, IsInEffect-pushed}
use Rattle.join_history.proofs.NextNodeLemmas.{effect_before}
use Rattle.rekey_core.specs.Held.{Held, epochs_of}
use Rattle.registrar_state.specs.declared.pledges.LastGrant.{LastGrant}
use Rattle.registrar_state.specs.LastGrants.{node_of, IsPlaceOf, Replaces, IsLastGrant, AreLastGrants, AreEpochs}

-- ---- what is kept of one pledge

-- a last Grant, with the epochs of its pledge, is what a summary keeps of the pledge
pub is_node : (h : List Entry) (x : LastGrant) (has stale : ℕ) → IsLastGrant h x → IsGreatest (Has h x.id) has
    → IsGreatest (IsStaleFor h x.id) stale → IsSumNode h (node_of x has stale)
is_node h x has stale is greatest greatest_stale = record {
  time = is.time;
  number = is.number;
  address = is.address;
  until = is.until;
  last = is.last;
  lease = is.lease;
  has = greatest;
  stale = greatest_stale;
}

-- the pledge is live exactly before the end of its last Grant
pub live_before_end : (h : List Entry) (held : Held) (x : LastGrant) (t : ℕ) → IsLegal h → AreEpochs h held → IsLastGrant h x
    → (t < x.until) ↔ ((a : ℕ) × IsLive h t x.id a)
live_before_end h held x t legal known is =
    let epochs = epochs_of held x.id in
    let node = node_of x epochs.has epochs.stale in
    let of = is_node h x epochs.has epochs.stale is (known x.id).0 (known x.id).1 in (
      (λ later.
          let lease = node_lease h node t legal of later in
          (x.address, (lease.time, x.context, lease.number, x.until, lease.last, later))),
      (λ live.
          let l = live.1 in
          let same = lease_node h node l.0 l.1 l.2 live.0 l.3 of l.4 in
          subst (λ (u : ℕ). t < u) same.end l.5),
    )

-- a pledge without a Grant isn't live
pub not_live_without : (h : List Entry) (p : PledgeId) (t : ℕ) → (Any (IsGrantTo h p) h → ⊥) → ((a : ℕ) × IsLive h t p a) → ⊥
not_live_without h p t none live = none (live_granted h t live.0 p live.1)

-- ---- one pledge after one more entry

-- what is kept of a pledge to which an address was just granted
pub last_granted : (h : List Entry) (time number : ℕ) (x : LastGrant) → pledge_of h x.context ≡ Some x.id
    → IsLastGrant (h ++ Grant time x.context number x.address x.until ∷ []) x
last_granted h time number x owner =
    let grant = Grant time x.context number x.address x.until in record {
      time = time;
      number = number;
      address = x.address;
      until = x.until;
      last = IsLast-pushed (IsGrantTo (h ++ grant ∷ []) x.id) h grant (pledge_of-append h (grant ∷ []) x.context x.id owner);
      lease = inl (IsInEffect-pushed h grant x.id, refl, refl);
    }

-- the last Grant stays the last one where no Grant to the pledge follows
last_stays : (h : List Entry) (e x : Entry) (p : PledgeId) → IsLegal h → (IsGrantTo (h ++ e ∷ []) p e → ⊥)
    → IsLast (IsGrantTo h p) h x → IsLast (IsGrantTo (h ++ e ∷ []) p) (h ++ e ∷ []) x
last_stays h e x p legal not last =
    IsLast-kept (IsGrantTo h p) (IsGrantTo (h ++ e ∷ []) p) h x e
    (λ z granted has. IsGrantTo-before h (e ∷ []) p z legal has granted)
    (IsGrantTo-append h (e ∷ []) p x last.holds) not last

-- what is kept of a pledge stays where the entry neither is a Grant to it nor releases it
pub last_kept : (h : List Entry) (e : Entry) (x : LastGrant) → IsLegal h → (IsGrantTo (h ++ e ∷ []) x.id e → ⊥)
    → (IsReleaseOf x.id e → ⊥) → IsLastGrant h x → IsLastGrant (h ++ e ∷ []) x
last_kept h e x legal not kept is =
    let grant = Grant is.time x.context is.number is.address is.until in record {
      time = is.time;
      number = is.number;
      address = is.address;
      until = is.until;
      last = last_stays h e grant x.id legal not is.last;
      lease = elim is.lease [
        | inl lease ↦ inl (IsInEffect-push h e grant x.id kept lease.0, lease.1, lease.2)
        | inr gone ↦ inr (
          (λ effect. gone.0 (effect_before h e grant x.id not (IsGrantTo-append h (e ∷ []) x.id grant is.last.holds) effect).0),
          gone.1,
          gone.2,
        )
      ];
    }

-- what is kept of a pledge that was just released
pub last_released : (h : List Entry) (time : ℕ) (x y : LastGrant) → IsLegal h → IsLastGrant h x → y.id ≡ x.id
    → y.context ≡ x.context → y.address ≡ 0 → y.until ≡ 0 → IsLastGrant (h ++ Release time x.id ∷ []) y
last_released h time x y legal is id context address until =
    let e = Release time x.id in
    let grant = Grant is.time x.context is.number is.address is.until in
    let last = last_stays h e grant x.id legal (λ granted. granted) is.last in
    let own = subst (λ q. IsLast (IsGrantTo (h ++ e ∷ []) q) (h ++ e ∷ []) grant) (sym id) last in
    let gone : IsInEffect (h ++ e ∷ []) y.id (Grant is.time y.context is.number is.address is.until) → ⊥ = λ effect.
    let moved = subst (λ (c : ℕ). IsInEffect (h ++ e ∷ []) y.id (Grant is.time c is.number is.address is.until)) context effect in
    let its = subst (λ q. IsInEffect (h ++ e ∷ []) q grant) id moved in
    (effect_before h e grant x.id (λ granted. granted) (IsGrantTo-append h (e ∷ []) x.id grant is.last.holds) its).1 refl in
    record {
      time = is.time;
      number = is.number;
      address = is.address;
      until = is.until;
      last = subst (λ (c : ℕ). IsLast (IsGrantTo (h ++ e ∷ []) y.id) (h ++ e ∷ []) (Grant is.time c is.number is.address is.until))
          (sym context) own;
      lease = inr (gone, address, until);
    }

-- ---- which pledges had a Grant after one more entry

-- a pledge that had a Grant after one more entry had one before, or the entry is one
pub granted_before : (h : List Entry) (e : Entry) (p : PledgeId) → IsLegal h → Any (IsGrantTo (h ++ e ∷ []) p) (h ++ e ∷ [])
    → Any (IsGrantTo h p) h ⊎ IsGrantTo (h ++ e ∷ []) p e
granted_before h e p legal some = elim (Contains-push_cases h e some.1 (some.0, some.2, some.3)) [
  | inl old ↦ inl (Any-from_contains (IsGrantTo h p) h some.1 old (IsGrantTo-before h (e ∷ []) p some.1 legal old some.4))
  | inr new ↦ inr (subst (IsGrantTo (h ++ e ∷ []) p) (sym new) some.4)
]

-- ---- the list after one more entry

-- an entry that is no Grant and no Release leaves what is kept
pub AreLastGrants-other : (h : List Entry) (e : Entry) (grants : List LastGrant) → IsLegal h
    → ((p : PledgeId) → IsLeaseOf (h ++ e ∷ []) p e → ⊥) → AreLastGrants h grants → AreLastGrants (h ++ e ∷ []) grants
AreLastGrants-other h e grants legal none are = record {
  ascend = are.ascend;
  each = λ x has. last_kept h e x legal (λ granted. none x.id (inl granted)) (λ released. none x.id (inr released)) (are.each x has);
  every = λ p some. elim (granted_before h e p legal some) [
    | inl old ↦ are.every p old
    | inr new ↦ absurd (none p (inl new))
  ];
}

-- each pledge of which something was kept has something in the new list
every_kept : (h : List Entry) (old new : List LastGrant) (x : LastGrant) (p : PledgeId) → AreLastGrants h old
    → Replaces old new x → Any (IsGrantTo h p) h → (y : LastGrant) × Contains new y × (y.id ≡ p)
every_kept h old new x p are replaces some =
    let y = are.every p some in
    elim (pledge_decides y.0.id x.id) [
      | inl same ↦ (x, replaces.has, sym same ∙ y.2)
      | inr other ↦ (y.0, replaces.kept y.0 y.1 other, y.2)
    ]

-- after a Grant
pub AreLastGrants-granted : (h : List Entry) (time number : ℕ) (x : LastGrant) (old new : List LastGrant) → IsLegal h
    → pledge_of h x.context ≡ Some x.id → Replaces old new x → AreLastGrants h old
    → AreLastGrants (h ++ Grant time x.context number x.address x.until ∷ []) new
AreLastGrants-granted h time number x old new legal owner replaces are =
    let e = Grant time x.context number x.address x.until in
    let behind = pledge_of-append h (e ∷ []) x.context x.id owner in record {
      ascend = replaces.ascend;
      each = λ y has. elim (replaces.each y has) [
        | inl same ↦ subst (IsLastGrant (h ++ e ∷ [])) (sym same) (last_granted h time number x owner)
        | inr (before, other) ↦
            last_kept h e y legal (λ granted. other (one_pledge (h ++ e ∷ []) x.context y.id x.id granted behind))
            (λ released. released) (are.each y before)
      ];
      every = λ p some. elim (granted_before h e p legal some) [
        | inl before ↦ every_kept h old new x p are replaces before
        | inr new ↦ (x, replaces.has, one_pledge (h ++ e ∷ []) x.context x.id p behind new)
      ];
    }

-- after a Release of a pledge that had a Grant
pub AreLastGrants-released : (h : List Entry) (time : ℕ) (x y : LastGrant) (old new : List LastGrant) → IsLegal h
    → IsLastGrant h x → y.id ≡ x.id → y.context ≡ x.context → y.address ≡ 0 → y.until ≡ 0 → Replaces old new y
    → AreLastGrants h old → AreLastGrants (h ++ Release time x.id ∷ []) new
AreLastGrants-released h time x y old new legal last id context address until replaces are =
    let e = Release time x.id in record {
      ascend = replaces.ascend;
      each = λ z has. elim (replaces.each z has) [
        | inl same ↦
            subst (IsLastGrant (h ++ e ∷ [])) (sym same)
            (last_released h time x y legal last id context address until)
        | inr (before, other) ↦
            last_kept h e z legal (λ granted. granted) (λ released. other (sym released ∙ sym id)) (are.each z before)
      ];
      every = λ p some. elim (granted_before h e p legal some) [
        | inl before ↦ every_kept h old new y p are replaces before
        | inr new ↦ absurd new
      ];
    }

-- ---- what is kept of a pledge, by its place

-- what is at the pledge's place is its last Grant
pub kept_at : (h : List Entry) (xs : List LastGrant) (p : PledgeId) (i : ℕ) (x : LastGrant) → AreLastGrants h xs
    → IsPlaceOf xs p i → x ≡ get_or xs i x → IsLastGrant h x × (x.id ≡ p)
kept_at h xs p i x are place is =
    (are.each x (i, place.0, sym is), ap (λ (y : LastGrant). y.id) is ∙ place.1 x)

-- a test of the end of the last Grant says whether the pledge is live
pub live_by_end : (h : List Entry) (held : Held) (x : LastGrant) (p : PledgeId) (t : ℕ) (b : Bool) → IsLegal h → AreEpochs h held
    → IsLastGrant h x × (x.id ≡ p) → b ≡ ltb t x.until → IsTrue b ↔ ((a : ℕ) × IsLive h t p a)
live_by_end h held x p t b legal known (last, id) is =
    subst (λ q. IsTrue b ↔ ((a : ℕ) × IsLive h t q a)) id (
      (λ yes. (live_before_end h held x t legal known last).0 (ltb-true t x.until (sym is ∙ yes))),
      (λ live. is ∙ lt-ltb t x.until ((live_before_end h held x t legal known last).1 live)),
    )
