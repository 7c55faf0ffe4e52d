-- What the leases say after one more entry, and after some are forgotten.
use Rattle.std.proofs.Common.{◌≡◌, ◌≢◌, ◌↔◌, ◌⊎◌, inl, inr, ℕ, ◌+◌, ◌<◌, ◌≤◌, List, [], ◌∷◌, ◌++◌, filter, Some, Contains, refl, sym, ap, ◌∙◌, subst, arith}
use Rattle.std.proofs.lemmas.Bool.{lt-ltb}
use Rattle.std.proofs.lemmas.List.Sorted.{Contains-permutation, IsPermutation-sym}
use Rattle.address_leases.proofs.ListLemmas.{Contains-here, Contains-later, Contains-cons_cases}
use Rattle.edge_traits.specs.declared.names.PledgeId.{PledgeId}
use Rattle.address_leases.specs.declared.grant.Grant.{Grant as Lease}
use Rattle.address_leases.specs.Lent as lent
use Rattle.address_leases.specs.Steps.{Gives, Passes, Releases, is_kept, is_of_another}
use Rattle.address_leases.proofs.QueueLemmas.{Contains-filter, Contains-from_filter}
use Rattle.address_leases.proofs.IndexLemmas.{stays, gone}
use Rattle.journal_text.specs.declared.entry.Entry.{Entry}
use Rattle.journal_text.specs.declared.entry.Entry.TheVariants.{Grant, Release}
use Rattle.join_history.specs.Contexts.{pledge_of}
use Rattle.join_history.specs.Leases.{IsReleaseOf, IsLeaseOf, IsLive}
use Rattle.join_history.specs.Legal.{IsLegal}
use Rattle.join_history.proofs.LastLemmas.{IsLast-unique, IsLast-pushed, IsLast-kept}
use Rattle.join_history.proofs.LeaseLemmas.{pledge_decides, pledge_of-append, one_pledge, Grant-enrolled, IsInEffect-contains}
use Rattle.join_history.proofs.EpochLemmas.{IsLeaseOf-append, IsLeaseOf-before, IsLive-before}
use Rattle.join_history.proofs.NextLemmas.{IsInEffect-push, IsInEffect-pushed, IsInEffect-cases}
use Rattle.registrar_state.specs.Leases.{IsLease, AreLeases}

-- ---- some are forgotten

pub leases_passed : (h : List Entry) (time : ℕ) (old new : lent.Lent) → old.passed ≤ time → Passes time old new
    → AreLeases h old → AreLeases h new
leases_passed h time old new later passes is =
    let kept = filter (is_kept time) old.grants in
    record {
      each = λ g has. is.each g (Contains-from_filter (is_kept time) old.grants g
          (Contains-permutation new.grants kept g (IsPermutation-sym kept new.grants passes.grants) has)).0;
      every = λ g leased still.
          let holds : time < g.until + 3600 = subst (λ (t : ℕ). t < g.until + 3600) passes.passed still in
          Contains-permutation kept new.grants g passes.grants
          (Contains-filter (is_kept time) old.grants g (is.every g leased (omega (arith, holds, later))) (lt-ltb time (g.until + 3600) holds));
      live = λ t a p after.
          let from : time ≤ t = subst (λ (x : ℕ). x ≤ t) passes.passed after in
          let same = passes.leases t a p from in
          let of = is.live t a p (omega (arith, from, later)) in
          (λ live. of.0 (same.0 live), λ live. same.1 (of.1 live));
    }

-- ---- an entry that gives no lease and takes none back

-- a lease after an entry that is no Grant was one before
lease_before : (h : List Entry) (e : Entry) (g : Lease) → IsLegal h
    → ((time context number a until : ℕ) → e ≡ Grant time context number a until → ⊥)
    → IsLease (h ++ e ∷ []) g → IsLease h g × (IsReleaseOf g.id e → ⊥)
lease_before h e g legal none is =
    let grant = Grant is.time is.context is.number g.address g.until in
    elim (IsInEffect-cases h e grant g.id is.effect) [
      | inl new ↦ absurd (none is.time is.context is.number g.address g.until new)
      | inr (old, not) ↦
          let known = Grant-enrolled is.time is.context is.number g.address g.until h legal (IsInEffect-contains h g.id grant old) in
          let same = one_pledge (h ++ e ∷ []) is.context known.0 g.id (pledge_of-append h (e ∷ []) is.context known.0 known.1) is.pledge in
          let before : IsLease h g = record {
            time = is.time;
            context = is.context;
            number = is.number;
            effect = old;
            pledge = known.1 ∙ ap (λ p. Some p) same;
          } in
          (before, not)
    ]

-- a lease stays where the entry doesn't take it back
lease_after : (h : List Entry) (e : Entry) (g : Lease) → (IsReleaseOf g.id e → ⊥) → IsLease h g → IsLease (h ++ e ∷ []) g
lease_after h e g not is = record {
  time = is.time;
  context = is.context;
  number = is.number;
  effect = IsInEffect-push h e (Grant is.time is.context is.number g.address g.until) g.id not is.effect;
  pledge = pledge_of-append h (e ∷ []) is.context g.id is.pledge;
}

-- a live lease stays where the entry neither gives the pledge one nor takes it back
live_after : (h : List Entry) (e : Entry) (t a : ℕ) (p : PledgeId) → IsLegal h → (IsLeaseOf (h ++ e ∷ []) p e → ⊥)
    → IsLive h t p a → IsLive (h ++ e ∷ []) t p a
live_after h e t a p legal not (time, context, number, until, last, later) = (
  time,
  context,
  number,
  until,
  IsLast-kept (IsLeaseOf h p) (IsLeaseOf (h ++ e ∷ []) p) h (Grant time context number a until) e (λ x lease has. IsLeaseOf-before h (e ∷ []) p x legal has lease)
      (IsLeaseOf-append h (e ∷ []) p (Grant time context number a until) last.holds) not last,
  later,
)

live_same : (h : List Entry) (e : Entry) (t a : ℕ) (p : PledgeId) → IsLegal h → (IsLeaseOf (h ++ e ∷ []) p e → ⊥)
    → IsLive h t p a ↔ IsLive (h ++ e ∷ []) t p a
live_same h e t a p legal not =
    (λ live. live_after h e t a p legal not live, λ live. IsLive-before h e t t a p legal not (omega arith) live)

-- the entry is neither a Grant nor a Release
pub record IsNoLease (e : Entry) : Type 0 where
  pub no_grant : (time context number a until : ℕ) → e ≡ Grant time context number a until → ⊥
  pub no_release : (p : PledgeId) → IsReleaseOf p e → ⊥
  pub no_lease : (h : List Entry) (p : PledgeId) → IsLeaseOf h p e → ⊥

pub leases_kept : (h : List Entry) (e : Entry) (l : lent.Lent) → IsLegal h → IsNoLease e → AreLeases h l → AreLeases (h ++ e ∷ []) l
leases_kept h e l legal none is = record {
  each = λ g has. lease_after h e g (none.no_release g.id) (is.each g has);
  every = λ g leased still. is.every g (lease_before h e g legal none.no_grant leased).0 still;
  live = λ t a p after.
      let same = live_same h e t a p legal (none.no_lease (h ++ e ∷ []) p) in
      let of = is.live t a p after in
      (λ live. same.0 (of.0 live), λ live. of.1 (same.1 live));
}

-- ---- Grant

-- the lease that a Grant gives
abbrev pub new_lease : PledgeId → ℕ → ℕ → Lease
new_lease p a until = record { until = until; address = a; id = p }

granted_new : (h : List Entry) (time c n a until : ℕ) (p : PledgeId) → pledge_of h c ≡ Some p
    → IsLease (h ++ Grant time c n a until ∷ []) (new_lease p a until)
granted_new h time c n a until p owner = record {
  time = time;
  context = c;
  number = n;
  effect = IsInEffect-pushed h (Grant time c n a until) p;
  pledge = pledge_of-append h (Grant time c n a until ∷ []) c p owner;
}

-- a lease after a Grant is its own, or one before
granted_cases : (h : List Entry) (time c n a until : ℕ) (p : PledgeId) (g : Lease) → IsLegal h → pledge_of h c ≡ Some p
    → IsLease (h ++ Grant time c n a until ∷ []) g → (new_lease p a until ≡ g) ⊎ IsLease h g
granted_cases h time c n a until p g legal owner is =
    let e = Grant time c n a until in
    let grant = Grant is.time is.context is.number g.address g.until in
    elim (IsInEffect-cases h e grant g.id is.effect) [
      | inl new ↦
          let context : c ≡ is.context = cc (new) in
          let address : a ≡ g.address = cc (new) in
          let end : until ≡ g.until = cc (new) in
          let own = pledge_of-append h (e ∷ []) c p owner in
          let same = one_pledge (h ++ e ∷ []) is.context p g.id (subst (λ (x : ℕ). pledge_of (h ++ e ∷ []) x ≡ Some p) context own) is.pledge in
          inl (λ i. record { until = end i; address = address i; id = same i })
      | inr (old, not) ↦
          let known = Grant-enrolled is.time is.context is.number g.address g.until h legal (IsInEffect-contains h g.id grant old) in
          let same = one_pledge (h ++ e ∷ []) is.context known.0 g.id (pledge_of-append h (e ∷ []) is.context known.0 known.1) is.pledge in
          let before : IsLease h g = record {
            time = is.time;
            context = is.context;
            number = is.number;
            effect = old;
            pledge = known.1 ∙ ap (λ x. Some x) same;
          } in
          inr before
    ]

-- what a Grant to another pledge is no lease of
not_anothers : (h : List Entry) (time c n a until : ℕ) (p q : PledgeId) → pledge_of h c ≡ Some p → q ≢ p
    → IsLeaseOf (h ++ Grant time c n a until ∷ []) q (Grant time c n a until) → ⊥
not_anothers h time c n a until p q owner other (inl granted) =
    let e = Grant time c n a until in
    other (one_pledge (h ++ e ∷ []) c q p granted (pledge_of-append h (e ∷ []) c p owner))
not_anothers h time c n a until p q owner other (inr released) = released

-- the live lease of the pledge after a Grant to it
granted_live : (h : List Entry) (time c n a until t b : ℕ) (p : PledgeId) → pledge_of h c ≡ Some p
    → IsLive (h ++ Grant time c n a until ∷ []) t p b → (a ≡ b) × (t < until)
granted_live h time c n a until t b p owner live =
    let e = Grant time c n a until in
    let own = pledge_of-append h (e ∷ []) c p owner in
    let same : e ≡ Grant live.0 live.1 live.2 b live.3 =
    IsLast-unique (IsLeaseOf (h ++ e ∷ []) p) (h ++ e ∷ []) e (Grant live.0 live.1 live.2 b live.3)
    (IsLast-pushed (IsLeaseOf (h ++ e ∷ []) p) h e (inl own)) live.4 in
    let end : until ≡ live.3 = cc (same) in
    (cc (same), subst (λ (x : ℕ). t < x) (sym end) live.5)

some_lease : (g x : Lease) → Some g ≡ Some x → g ≡ x
some_lease g x is = cc (is)

pub leases_granted : (h : List Entry) (time c n a until : ℕ) (p : PledgeId) (old new : lent.Lent) → IsLegal h
    → pledge_of h c ≡ Some p → Gives (new_lease p a until) old new → AreLeases h old
    → AreLeases (h ++ Grant time c n a until ∷ []) new
leases_granted h time c n a until p old new legal owner gives is =
    let e = Grant time c n a until in
    let own = pledge_of-append h (e ∷ []) c p owner in
    record {
      each = λ g has. elim (Contains-cons_cases (new_lease p a until) old.grants g
          (Contains-permutation new.grants (new_lease p a until ∷ old.grants) g (IsPermutation-sym (new_lease p a until ∷ old.grants) new.grants gives.grants) has)) [
            | inl same ↦ subst (IsLease (h ++ e ∷ [])) same (granted_new h time c n a until p owner)
            | inr before ↦ lease_after h e g (λ released. released) (is.each g before)
          ];
      every = λ g leased still.
          Contains-permutation (new_lease p a until ∷ old.grants) new.grants g gives.grants
          (elim (granted_cases h time c n a until p g legal owner leased) [
            | inl same ↦ subst (Contains (new_lease p a until ∷ old.grants)) same (Contains-here (new_lease p a until) old.grants)
            | inr before ↦ Contains-later (new_lease p a until) old.grants g
                (is.every g before (subst (λ (x : ℕ). x < g.until + 3600) gives.passed still))
          ]);
      live = λ t b q after. elim (pledge_decides q p) [
        | inl same ↦ subst (λ x. lent.IsLive new t x b ↔ IsLive (h ++ e ∷ []) t x b) (sym same) (
          (λ live.
              let g = some_lease (new_lease p a until) live.0 (sym gives.lease ∙ live.1) in
              let address : a ≡ b = ap (λ (x : Lease). x.address) g ∙ live.2 in
              let end : until ≡ live.0.until = ap (λ (x : Lease). x.until) g in
              let later : t < until = subst (λ (x : ℕ). t < x) (sym end) live.3 in
              subst (IsLive (h ++ e ∷ []) t p) address
              (time, c, n, until, IsLast-pushed (IsLeaseOf (h ++ e ∷ []) p) h e (inl own), later)),
          (λ live.
              let is_live = granted_live h time c n a until t b p owner live in
              (new_lease p a until, gives.lease, is_live.0, is_live.1)),
        )
        | inr other ↦
            let stays = gives.others q other t b (subst (λ (x : ℕ). x ≤ t) gives.passed after) in
            let of = is.live t b q (subst (λ (x : ℕ). x ≤ t) gives.passed after) in
            let same = live_same h e t b q legal (not_anothers h time c n a until p q owner other) in
            (λ live. same.0 (of.0 (stays.0 live)), λ live. stays.1 (of.1 (same.1 live)))
      ];
    }

-- ---- Release

-- after its Release a pledge is not live
released_live : (h : List Entry) (time t a : ℕ) (p : PledgeId) → IsLive (h ++ Release time p ∷ []) t p a → ⊥
released_live h time t a p live =
    let e = Release time p in
    let same : e ≡ Grant live.0 live.1 live.2 a live.3 =
    IsLast-unique (IsLeaseOf (h ++ e ∷ []) p) (h ++ e ∷ []) e (Grant live.0 live.1 live.2 a live.3)
    (IsLast-pushed (IsLeaseOf (h ++ e ∷ []) p) h e (inr refl)) live.4 in
    cc (same)

not_released : (h : List Entry) (time : ℕ) (p q : PledgeId) → q ≢ p → IsLeaseOf (h ++ Release time p ∷ []) q (Release time p) → ⊥
not_released h time p q other (inl granted) = granted
not_released h time p q other (inr released) = other (sym released)

no_grant_of_release : (time : ℕ) (p : PledgeId) (made context number a until : ℕ) → Release time p ≡ Grant made context number a until → ⊥
no_grant_of_release time p made context number a until is = cc (is)

pub leases_released : (h : List Entry) (time : ℕ) (p : PledgeId) (old new : lent.Lent) → IsLegal h → Releases p old new
    → AreLeases h old → AreLeases (h ++ Release time p ∷ []) new
leases_released h time p old new legal releases is =
    let e = Release time p in
    let left = filter (is_of_another p) old.grants in
    record {
      each = λ g has.
          let before = (Contains-from_filter (is_of_another p) old.grants g (Contains-permutation new.grants left g (IsPermutation-sym left new.grants releases.grants) has)).0 in
          lease_after h e g (λ released. gone p old.grants new.grants g releases.grants has (sym released)) (is.each g before);
      every = λ g leased still.
          let before = lease_before h e g legal (no_grant_of_release time p) leased in
          stays p old.grants new.grants g releases.grants
          (is.every g before.0 (subst (λ (x : ℕ). x < g.until + 3600) releases.passed still)) (λ same. before.1 (sym same));
      live = λ t a q after.
          let from = subst (λ (x : ℕ). x ≤ t) releases.passed after in
          elim (pledge_decides q p) [
            | inl same ↦ subst (λ x. lent.IsLive new t x a ↔ IsLive (h ++ e ∷ []) t x a) (sym same)
                (λ live. absurd (releases.no_lease t from a live), λ live. absurd (released_live h time t a p live))
            | inr other ↦
                let stay = releases.others q other t a from in
                let of = is.live t a q from in
                let kept = live_same h e t a q legal (not_released h time p q other) in
                (λ live. kept.0 (of.0 (stay.0 live)), λ live. stay.1 (of.1 (kept.1 live)))
          ];
    }
