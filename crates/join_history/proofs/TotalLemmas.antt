-- A request of an enrolled context is due something: each question of freshness and leases has an answer.
use Rattle.std.proofs.Common.{◌≡◌, ◌≢◌, ◌⊎◌, inl, inr, ℕ, zero, suc, ◌+◌, ◌<◌, ◌≤◌, List, [], ◌∷◌, ◌++◌, Some, All, refl, sym, ap, ◌∙◌, subst, arith}
use Rattle.std.proofs.lemmas.Bool.{cases_eq, cases_lt}
use Rattle.std.proofs.lemmas.Option.{same_Some}
use Rattle.std.proofs.lemmas.List.Elements.{All-nil, All-push, All-contains}
use Rattle.edge_traits.specs.declared.names.PledgeId.{PledgeId}
use Rattle.journal_text.specs.declared.settings.Settings.{Settings}
use Rattle.journal_text.specs.declared.refusal.Refusal.TheVariants.{NoAddress}
use Rattle.journal_text.specs.declared.entry.Entry.{Entry}
use Rattle.journal_text.specs.declared.entry.Entry.TheVariants.{Settings as SettingsEntry, Enroll, Grant, Refuse, Block, Roll, Given, Stale, Switch, Release}
use Rattle.join_history.specs.declared.due.Due.{Due}
use Rattle.join_history.specs.declared.due.Due.TheVariants.{Add, Again, Quiet}
use Rattle.join_history.specs.declared.due.Quiet.TheVariants.{Taken, Old, Late}
use Rattle.join_history.specs.declared.due.Want.{Want}
use Rattle.join_history.specs.declared.due.Want.TheVariants as want
use Rattle.join_history.specs.Last.{IsLast}
use Rattle.join_history.specs.Times.{time_of, moment}
use Rattle.join_history.specs.Contexts.{pledge_of}
use Rattle.join_history.specs.Decisions.{IsDecision, HasNumber, IsFresh, IsLastDecision}
use Rattle.join_history.specs.Leases.{current_settings, lease_end, IsReleaseOf, IsInEffect, IsLeaseOf, IsLive, IsNotLive, IsInPool, IsHeldByAnother, IsLeastFree, IsDueAddress, HasNoAddress}
use Rattle.join_history.specs.Legal.{IsLegal}
use Rattle.join_history.specs.Due.{IsDueEntry, IsNoRepeat, IsDue}
use Rattle.join_history.proofs.ListLemmas.{push_induction, Any-from_contains, no_middle, none_has, option_cases}
use Rattle.join_history.proofs.LastLemmas.{IsLast-unique, IsLast-pushed, IsLast-kept, IsLast-contains}
use Rattle.join_history.proofs.LeaseLemmas.{pledge_decides, granted_lease}

-- neither of two facts, so not one of them
sum_not : {A B : Type 0} → (A → ⊥) → (B → ⊥) → A ⊎ B → ⊥
sum_not not_a not_b (inl a) = not_a a
sum_not not_a not_b (inr b) = not_b b

-- a list has a last element with a property that can be tested, or none of its elements has it
pub last_or_none : {X : Type 0} (P : X → Type 0) → ((x : X) → P x ⊎ (P x → ⊥)) → (xs : List X)
    → ((x : X) × IsLast P xs x) ⊎ All (λ x. P x → ⊥) xs
last_or_none P test =
    push_induction (λ xs. ((x : _) × IsLast P xs x) ⊎ All (λ x. P x → ⊥) xs) (inr (All-nil (λ x. P x → ⊥)))
    (λ xs x so_far. elim (test x) [
      | inl holds ↦ inl (x, IsLast-pushed P xs x holds)
      | inr not ↦ elim so_far [
        | inl last ↦ inl (last.0, IsLast-kept P P xs last.0 x (λ z q has. q) last.1.holds not last.1)
        | inr none ↦ inr (All-push (λ x. P x → ⊥) xs x none not)
      ]
    ])

-- no place of a list has the property where neither its first place nor one of the rest has it
not_here : {X : Type 0} (Q : X → List X → Type 0) (y : X) (ys : List X) → (Q y ys → ⊥)
    → ((before : List X) (x : X) (after : List X) → ys ≡ before ++ x ∷ after → Q x after → ⊥)
    → (before : List X) (x : X) (after : List X) → y ∷ ys ≡ before ++ x ∷ after → Q x after → ⊥
not_here Q y ys not none [] x after is holds =
    let first : x ≡ y = cc in
    let rest : after ≡ ys = cc in
    not (subst (λ z. Q z ys) first (subst (Q x) rest holds))
not_here Q y ys not none (z ∷ before) x after is holds =
    let rest : ys ≡ before ++ x ∷ after = cc in
    none before x after rest holds

-- a list has a place with a property that can be tested, or none
middle_or_none : {X : Type 0} (Q : X → List X → Type 0) → ((x : X) (after : List X) → Q x after ⊎ (Q x after → ⊥))
    → (xs : List X) → ((before : List X) × (x : X) × (after : List X) × (xs ≡ before ++ x ∷ after) × Q x after)
    ⊎ ((before : List X) (x : X) (after : List X) → xs ≡ before ++ x ∷ after → Q x after → ⊥)
middle_or_none Q test [] = inr (λ before x after is holds. no_middle before after x is)
middle_or_none Q test (y ∷ ys) = elim (test y ys) [
  | inl holds ↦ inl ([], y, ys, refl, holds)
  | inr not ↦ elim (middle_or_none Q test ys) [
    | inl found ↦ inl (y ∷ found.0, found.1, found.2, ap (λ l. y ∷ l) found.3, found.4)
    | inr none ↦ inr (not_here Q y ys not none)
  ]
]

-- the pledge of a context is this one or not
pub owner_decides : (h : List Entry) (c : ℕ) (p : PledgeId) → (pledge_of h c ≡ Some p) ⊎ ((pledge_of h c ≡ Some p) → ⊥)
owner_decides h c p = elim (option_cases (pledge_of h c)) [
  | inl none ↦ inr (λ is. cc)
  | inr known ↦ elim (pledge_decides known.0 p) [
    | inl same ↦ inl (known.1 ∙ ap (λ x. Some x) same)
    | inr other ↦ inr (λ is. other (same_Some known.0 p (sym known.1 ∙ is)))
  ]
]

-- the entry decides a request of the context or not
pub decision_decides : (c : ℕ) (e : Entry) → ((n : ℕ) × IsDecision c n e) ⊎ (((n : ℕ) × IsDecision c n e) → ⊥)
decision_decides c (Grant time context number address until) = elim (cases_eq context c) [
  | inl same ↦ inl (number, (same, refl))
  | inr other ↦ inr (λ d. other d.1.0)
]
decision_decides c (Refuse time context number why) = elim (cases_eq context c) [
  | inl same ↦ inl (number, (same, refl))
  | inr other ↦ inr (λ d. other d.1.0)
]
decision_decides c _ = inr (λ d. d.1)

-- the entry decides a request of the context with a number from least on, or not
above_decides : (c least : ℕ) (e : Entry) → ((n : ℕ) × IsDecision c n e × (least ≤ n)) ⊎ (((n : ℕ) × IsDecision c n e × (least ≤ n)) → ⊥)
above_decides c least (Grant time context number address until) = elim (cases_eq context c) [
  | inl same ↦ elim (cases_lt number least) [
    | inl below ↦ inr (λ d. omega (arith, d.1.1, d.2, below))
    | inr above ↦ inl (number, (same, refl), omega arith)
  ]
  | inr other ↦ inr (λ d. other d.1.0)
]
above_decides c least (Refuse time context number why) = elim (cases_eq context c) [
  | inl same ↦ elim (cases_lt number least) [
    | inl below ↦ inr (λ d. omega (arith, d.1.1, d.2, below))
    | inr above ↦ inl (number, (same, refl), omega arith)
  ]
  | inr other ↦ inr (λ d. other d.1.0)
]
above_decides c least _ = inr (λ d. d.1)

-- the entry decides this number of the context or not
exact_decides : (c n : ℕ) (e : Entry) → IsDecision c n e ⊎ (IsDecision c n e → ⊥)
exact_decides c n (Grant time context number address until) = elim (cases_eq context c) [
  | inl same ↦ elim (cases_eq number n) [
    | inl is ↦ inl (same, is)
    | inr not ↦ inr (λ d. not d.1)
  ]
  | inr other ↦ inr (λ d. other d.0)
]
exact_decides c n (Refuse time context number why) = elim (cases_eq context c) [
  | inl same ↦ elim (cases_eq number n) [
    | inl is ↦ inl (same, is)
    | inr not ↦ inr (λ d. not d.1)
  ]
  | inr other ↦ inr (λ d. other d.0)
]
exact_decides c n _ = inr (λ d. d)

-- the entry is a Release of the pledge or not
pub release_decides : (p : PledgeId) (e : Entry) → IsReleaseOf p e ⊎ (IsReleaseOf p e → ⊥)
release_decides p (Release time id) = pledge_decides id p
release_decides p _ = inr (λ r. r)

-- the entry gives the pledge a lease or takes it back, or neither
pub lease_decides : (h : List Entry) (p : PledgeId) (e : Entry) → IsLeaseOf h p e ⊎ (IsLeaseOf h p e → ⊥)
lease_decides h p (Grant time context number address until) = elim (owner_decides h context p) [
  | inl granted ↦ inl (inl granted)
  | inr not ↦ inr (λ lease. not (granted_lease h p time context number address until lease))
]
lease_decides h p (Release time id) = elim (pledge_decides id p) [
  | inl released ↦ inl (inr released)
  | inr not ↦ inr (sum_not (λ g. g) not)
]
lease_decides h p _ = inr (sum_not (λ g. g) (λ r. r))

-- the place holds the address at t for another pledge
IsAnothersHold : List Entry → ℕ → ℕ → PledgeId → Entry → List Entry → Type 0
IsAnothersHold h t a p e after = (q : PledgeId) × (q ≢ p) × (time context number until : ℕ)
    × (e ≡ Grant time context number a until) × (pledge_of h context ≡ Some q)
    × All (λ x. IsReleaseOf q x → ⊥) after × (t < until + 3600)

-- an entry that is no Grant holds no address
no_hold : (h : List Entry) (t a : ℕ) (p : PledgeId) (e : Entry) (after : List Entry)
    → ((time context number until : ℕ) → e ≡ Grant time context number a until → ⊥)
    → IsAnothersHold h t a p e after → ⊥
unfolding IsAnothersHold
no_hold h t a p e after not hold = not hold.2 hold.3 hold.4 hold.5 hold.6

-- no Release of the pledge comes after, or one does
release_after : (q : PledgeId) (after : List Entry)
    → All (λ x. IsReleaseOf q x → ⊥) after ⊎ (All (λ x. IsReleaseOf q x → ⊥) after → ⊥)
release_after q after = elim (last_or_none (IsReleaseOf q) (release_decides q) after) [
  | inl last ↦ inr (λ none. All-contains (λ x. IsReleaseOf q x → ⊥) after last.0 none (IsLast-contains (IsReleaseOf q) after last.0 last.1) last.1.holds)
  | inr none ↦ inl none
]

-- a Grant of the address to another pledge holds it or doesn't
grant_hold_decides : (h : List Entry) (t a : ℕ) (p q : PledgeId) (time context number until : ℕ) (after : List Entry)
    → pledge_of h context ≡ Some q
    → IsAnothersHold h t a p (Grant time context number a until) after
    ⊎ (IsAnothersHold h t a p (Grant time context number a until) after → ⊥)
unfolding IsAnothersHold
grant_hold_decides h t a p q time context number until after owner = elim (pledge_decides q p) [
  | inl own ↦ inr (λ hold.
      let c : hold.3 ≡ context = cc (hold.6) in
      let same : hold.0 ≡ q = same_Some hold.0 q (sym (subst (λ x. pledge_of h x ≡ Some hold.0) c hold.7) ∙ owner) in
      hold.1 (same ∙ own))
  | inr other ↦ elim (cases_lt t (until + 3600)) [
    | inr past ↦ inr (λ hold. let u : hold.5 ≡ until = cc (hold.6) in omega (arith, hold.9, past, u))
    | inl later ↦ elim (release_after q after) [
      | inl kept ↦ inl (q, other, time, context, number, until, refl, owner, kept, later)
      | inr lost ↦ inr (λ hold.
          let c : hold.3 ≡ context = cc (hold.6) in
          let same : hold.0 ≡ q = same_Some hold.0 q (sym (subst (λ x. pledge_of h x ≡ Some hold.0) c hold.7) ∙ owner) in
          lost (subst (λ z. All (λ x. IsReleaseOf z x → ⊥) after) same hold.8))
    ]
  ]
]

-- a place holds the address for another pledge or doesn't
hold_decides : (h : List Entry) (t a : ℕ) (p : PledgeId) (e : Entry) (after : List Entry)
    → IsAnothersHold h t a p e after ⊎ (IsAnothersHold h t a p e after → ⊥)
unfolding IsAnothersHold
hold_decides h t a p (Grant time context number address until) after = elim (cases_eq address a) [
  | inr not ↦ inr (λ hold. not (cc (hold.6)))
  | inl is ↦ elim (option_cases (pledge_of h context)) [
    | inl none ↦ inr (λ hold. let c : hold.3 ≡ context = cc (hold.6) in
        cc (subst (λ x. pledge_of h x ≡ Some hold.0) c hold.7, none))
    | inr owner ↦ subst (λ x. IsAnothersHold h t a p (Grant time context number x until) after
        ⊎ (IsAnothersHold h t a p (Grant time context number x until) after → ⊥)) (sym is)
        (grant_hold_decides h t a p owner.0 time context number until after owner.1)
  ]
]
hold_decides h t a p (SettingsEntry time settings) after = inr (λ hold. cc (hold.6))
hold_decides h t a p (Enroll context id check) after = inr (λ hold. cc (hold.6))
hold_decides h t a p (Refuse time context number why) after = inr (λ hold. cc (hold.6))
hold_decides h t a p (Block context to) after = inr (λ hold. cc (hold.6))
hold_decides h t a p (Roll time set) after = inr (λ hold. cc (hold.6))
hold_decides h t a p (Given time context number epoch) after = inr (λ hold. cc (hold.6))
hold_decides h t a p (Stale time id epoch) after = inr (λ hold. cc (hold.6))
hold_decides h t a p (Switch time epoch) after = inr (λ hold. cc (hold.6))
hold_decides h t a p (Release time id) after = inr (λ hold. cc (hold.6))

-- another pledge holds the address or none does
held_decides : (h : List Entry) (t a : ℕ) (p : PledgeId) → IsHeldByAnother h t a p ⊎ (IsHeldByAnother h t a p → ⊥)
unfolding IsAnothersHold
held_decides h t a p = elim (middle_or_none (IsAnothersHold h t a p) (hold_decides h t a p) h) [
  | inl (before, e, after, place, hold) ↦
      let effect : IsInEffect h hold.0 (Grant hold.2 hold.3 hold.4 a hold.5) = record {
        before = before;
        after = after;
        place = place ∙ ap (λ x. before ++ x ∷ after) hold.6;
        none_since = hold.8;
      } in
      inl (hold.0, hold.1, (hold.2, hold.3, hold.4, hold.5, effect, hold.7, hold.9))
  | inr none ↦ inr (λ held.
      let effect = held.2.4 in
      none effect.before (Grant held.2.0 held.2.1 held.2.2 a held.2.3) effect.after effect.place
      (held.0, held.1, held.2.0, held.2.1, held.2.2, held.2.3, refl, held.2.5, effect.none_since, held.2.6))
]

-- among the numbers from one on there is a least without a property that can be tested, or all have it
least_or_none : (Q : ℕ → Type 0) → ((b : ℕ) → Q b ⊎ (Q b → ⊥)) → (first count : ℕ)
    → ((a : ℕ) × (first ≤ a) × (a < first + count) × (Q a → ⊥) × ((b : ℕ) → first ≤ b → b < a → Q b))
    ⊎ ((b : ℕ) → first ≤ b → b < first + count → Q b)
least_or_none Q test first zero = inr (λ b from below. absurd (omega (arith, from, below)))
least_or_none Q test first (suc count) = elim (least_or_none Q test first count) [
  | inl found ↦ inl (found.0, found.1, omega (arith, found.2), found.3, found.4)
  | inr all ↦ elim (test (first + count)) [
    | inl holds ↦ inr (λ b from below. elim (cases_lt b (first + count)) [
      | inl before ↦ all b from before
      | inr after ↦ let same : first + count ≡ b = omega (arith, from, below, after) in subst Q same holds
    ])
    | inr not ↦ inl (first + count, omega arith, omega arith, not, all)
  ]
]

-- a last Grant or Release makes the pledge live or not
live_at : (h : List Entry) (t : ℕ) (p : PledgeId) (e : Entry) → IsLast (IsLeaseOf h p) h e
    → ((a : ℕ) × IsLive h t p a) ⊎ IsNotLive h t p
live_at h t p (Grant time context number address until) last = elim (cases_lt t until) [
  | inl later ↦ inl (address, (time, context, number, until, last, later))
  | inr past ↦ inr (λ a live.
      let same = IsLast-unique (IsLeaseOf h p) h (Grant live.0 live.1 live.2 a live.3) (Grant time context number address until) live.4 last in
      let u : live.3 ≡ until = cc (same) in
      omega (arith, live.5, u, past))
]
live_at h t p (Release time id) last = inr (λ a live.
    let same = IsLast-unique (IsLeaseOf h p) h (Grant live.0 live.1 live.2 a live.3) (Release time id) live.4 last in cc (same))
live_at h t p _ last = absurd (sum_not (λ g. g) (λ r. r) last.holds)

-- an address of the pool lies in the range of the current settings
in_pool_from : (h : List Entry) (s : Settings) (b : ℕ) → current_settings h ≡ Some s → IsInPool h b
    → (s.first ≤ b) × (b < s.first + s.count)
in_pool_from h s b current pool =
    let same = same_Some pool.0 s (sym pool.1 ∙ current) in
    subst (λ (x : Settings). (x.first ≤ b) × (b < x.first + x.count)) same (pool.2, pool.3)

-- where no decision has a number 32 or more above n, each number is less than that
in_window : (h : List Entry) (c n : ℕ) → All (λ e. ((m : ℕ) × IsDecision c m e × (n + 32 ≤ m)) → ⊥) h
    → (m : ℕ) → HasNumber h c m → m < n + 32
in_window h c n few m has = elim (cases_lt m (n + 32)) [
  | inl below ↦ below
  | inr above ↦ absurd (All-contains (λ e. ((k : ℕ) × IsDecision c k e × (n + 32 ≤ k)) → ⊥) h has.1 few
      (has.0, has.2, has.3) (m, has.4, above))
]

-- at t the pledge has a live address or none
live_decides : (h : List Entry) (t : ℕ) (p : PledgeId) → ((a : ℕ) × IsLive h t p a) ⊎ IsNotLive h t p
live_decides h t p = elim (last_or_none (IsLeaseOf h p) (lease_decides h p) h) [
  | inr none ↦ inr (λ a live. All-contains (λ e. IsLeaseOf h p e → ⊥) h (Grant live.0 live.1 live.2 a live.3) none
      (IsLast-contains (IsLeaseOf h p) h (Grant live.0 live.1 live.2 a live.3) live.4) live.4.holds)
  | inl last ↦ live_at h t p last.0 last.1
]

-- a Join gets an address or none
address_decides : (h : List Entry) (t : ℕ) (p : PledgeId) (s : Settings) → current_settings h ≡ Some s
    → ((a : ℕ) × IsDueAddress h t p a) ⊎ HasNoAddress h t p
address_decides h t p s current = elim (live_decides h t p) [
  | inl live ↦ inl (live.0, inl live.1)
  | inr not ↦ elim (least_or_none (λ b. IsHeldByAnother h t b p) (λ b. held_decides h t b p) s.first s.count) [
    | inl (a, from, below, free, least) ↦
        let lowest : IsLeastFree h t p a = record {
          in_pool = (s, current, from, below);
          free = free;
          least = λ b pool before. least b (in_pool_from h s b current pool).0 before;
        } in
        inl (a, inr (not, lowest))
    | inr all ↦ inr (not, λ b pool. all b (in_pool_from h s b current pool).0 (in_pool_from h s b current pool).1)
  ]
]

-- a request that is fresh is due an entry
fresh_due : (h : List Entry) (t c n : ℕ) (wish : Want) (p : PledgeId) (s : Settings) → pledge_of h c ≡ Some p
    → current_settings h ≡ Some s → (e : Entry) × IsDueEntry h t c n wish e
fresh_due h t c n want.Join p s owner current = elim (address_decides h t p s current) [
  | inl found ↦ (Grant t c n found.0 (lease_end t s.hours), (refl, refl, refl, refl, p, s, owner, current, found.1, refl))
  | inr none ↦ (Refuse t c n NoAddress, (refl, refl, refl, (refl, p, owner, none)))
]
fresh_due h t c n (want.Refuse reason) p s owner current = (Refuse t c n reason, (refl, refl, refl, refl))

-- a request that repeats the last decision is due its answer or silence
repeat_due : (h : List Entry) (now c n time : ℕ) (wish : Want) (e : Entry) → IsLastDecision h c e → IsDecision c n e
    → time_of e ≡ Some time → (d : Due) × IsDue h now c n wish d
repeat_due h now c n time wish e last decides made = elim (cases_lt (time + 600) (moment h now)) [
  | inl late ↦ (Quiet Late, (time, (e, last, decides, made), late))
  | inr soon ↦ (Again, (time, (e, last, decides, made), soon))
]

-- a decision has a time
pub decision_time : (c n : ℕ) (e : Entry) → IsDecision c n e → (time : ℕ) × (time_of e ≡ Some time)
decision_time c n (Grant time context number address until) d = (time, refl)
decision_time c n (Refuse time context number why) d = (time, refl)
decision_time c n _ d = absurd d

-- no number was decided twice by one entry
pub same_number : (c n m : ℕ) (e : Entry) → IsDecision c n e → IsDecision c m e → n ≡ m
same_number c n m (Grant time context number address until) d d' = sym d.1 ∙ d'.1
same_number c n m (Refuse time context number why) d d' = sym d.1 ∙ d'.1
same_number c n m _ d d' = absurd d

-- a request that repeats no last decision is due something
other_due : (h : List Entry) (now c n : ℕ) (wish : Want) (p : PledgeId) (s : Settings) → pledge_of h c ≡ Some p
    → current_settings h ≡ Some s → IsNoRepeat h c n → (d : Due) × IsDue h now c n wish d
other_due h now c n wish p s owner current none =
    elim (last_or_none (λ e. (m : ℕ) × IsDecision c m e × (n + 32 ≤ m)) (above_decides c (n + 32)) h) [
      | inl (e, last) ↦
          let has = IsLast-contains (λ e. (m : ℕ) × IsDecision c m e × (n + 32 ≤ m)) h e last in
          (Quiet Old, (none, last.holds.0, Any-from_contains (IsDecision c last.holds.0) h e has last.holds.1, last.holds.2))
      | inr few ↦
          let window : (m : ℕ) → HasNumber h c m → m < n + 32 = in_window h c n few in
          elim (last_or_none (IsDecision c n) (exact_decides c n) h) [
            | inl (e, last) ↦ (
              Quiet Taken,
              (
                none,
                Any-from_contains (IsDecision c n) h e (IsLast-contains (IsDecision c n) h e last) last.holds,
                window,
              ),
            )
            | inr unused ↦
                let fresh : IsFresh h c n = record {
                  unused = none_has (IsDecision c n) h unused;
                  in_window = window;
                } in
                let due = fresh_due h (moment h now) c n wish p s owner current in
                (Add due.0, (fresh, due.1))
          ]
    ]

-- a request of an enrolled context is due something once there are settings
pub due_something : (h : List Entry) (now c n : ℕ) (wish : Want) (p : PledgeId) (s : Settings) → IsLegal h
    → pledge_of h c ≡ Some p → current_settings h ≡ Some s → (d : Due) × IsDue h now c n wish d
due_something h now c n wish p s legal owner current =
    elim (last_or_none (λ e. (m : ℕ) × IsDecision c m e) (decision_decides c) h) [
      | inr none ↦ other_due h now c n wish p s owner current
          (λ time repeat. All-contains (λ e. ((m : ℕ) × IsDecision c m e) → ⊥) h repeat.0 none
          (IsLast-contains (λ e. (m : ℕ) × IsDecision c m e) h repeat.0 repeat.1) (n, repeat.2))
      | inl (e, last) ↦ elim (cases_eq last.holds.0 n) [
        | inl same ↦
            let decides = subst (λ m. IsDecision c m e) same last.holds.1 in
            let made = decision_time c n e decides in
            repeat_due h now c n made.0 wish e last decides made.1
        | inr other ↦ other_due h now c n wish p s owner current
            (λ time repeat.
            let one = IsLast-unique (λ e. (m : ℕ) × IsDecision c m e) h repeat.0 e repeat.1 last in
            other (same_number c last.holds.0 n e last.holds.1 (subst (IsDecision c n) one repeat.2)))
      ]
    ]
