-- Two legal histories with one summary have one summary after one more entry: its nodes.
use Rattle.std.proofs.Common.{◌≡◌, ◌⊎◌, inl, inr, ℕ, zero, suc, ◌≤◌, List, [], ◌∷◌, ◌++◌, get_or, Some, Contains, All, Any, refl, sym, ap, ◌∙◌, subst, arith}
use Rattle.std.proofs.lemmas.List.Elements.{All-nil, All-contains, Contains-push_cases, Contains-append_left}
use Rattle.edge_traits.specs.declared.names.PledgeId.{PledgeId}
use Rattle.key_sets.specs.declared.set.KeySet.{KeySet}
use Rattle.key_sets.specs.declared.phase.Phase.{Phase}
use Rattle.key_sets.specs.declared.phase.Phase.TheVariants.{None, Steady, Spreading}
use Rattle.key_sets.specs.Keys.{epoch_of}
use Rattle.journal_text.specs.declared.summary.SumNode.{SumNode}
use Rattle.journal_text.specs.declared.entry.Entry.{Entry}
use Rattle.journal_text.specs.declared.entry.Entry.TheVariants.{Settings as SettingsEntry, Enroll, Grant, Refuse, Block, Roll, Given, Stale, Switch, Release}
use Rattle.join_history.specs.Last.{IsLast}
use Rattle.join_history.specs.Leases.{IsGrantTo, IsReleaseOf, IsInEffect}
use Rattle.join_history.specs.Phases.{rolled, switched, phase_after, phase, IsNextEpoch}
use Rattle.join_history.specs.Epochs.{IsRollOf, IsGivenTo, IsStaleOf, IsGrantedSince, Has, IsStaleFor}
use Rattle.join_history.specs.Legal.{IsLegal, MayFollow}
use Rattle.join_history.specs.Summary.{IsGreatest, IsNodeLease, IsSumNode, IsSummary, Summary}
use Rattle.join_history.proofs.ListLemmas.{Any-from_contains, Last, Earlier, in_pushed, All-from_contains, middle_append, Contains-in_after}
use Rattle.join_history.proofs.LastLemmas.{IsLast-unique, IsLast-pushed, IsLast-kept, IsLast-push_cases, IsLast-contains}
use Rattle.join_history.proofs.LegalLemmas.{legal_induction, IsLegal-push}
use Rattle.join_history.proofs.LeaseLemmas.{pledge_decides, pledge_of-append, one_pledge}
use Rattle.join_history.proofs.KeyLemmas.{phase-push}
use Rattle.join_history.proofs.EpochLemmas.{IsGrantTo-append, IsGrantTo-before, Has-append, IsStaleFor-push}
use Rattle.join_history.proofs.TotalLemmas.{release_decides, owner_decides}
use Rattle.join_history.proofs.NodeLemmas.{has_epoch, stale_epoch, given_enrolled}
use Rattle.join_history.proofs.TwinLemmas.{same_phase, same_pledge}
use Rattle.join_history.proofs.AlikeLemmas.{shared_node, spread_newest}
use Rattle.join_history.proofs.NextLemmas.{Next, turn_next, next_legal, next_time, next_settings, next_phase, next_count, next_context, next_grant, Contains-pushed, IsInEffect-push, IsInEffect-pushed, IsInEffect-cases, next_owner}

-- a property has one greatest number
pub greatest_unique : (P : ℕ → Type 0) (n m : ℕ) → IsGreatest P n → IsGreatest P m → n ≡ m
greatest_unique P n m a b = elim a.holds [
  | inl none ↦ elim b.holds [
    | inl none' ↦ none ∙ sym none'
    | inr there ↦ let least = a.at_most m there in omega (arith, none, least)
  ]
  | inr here ↦ elim b.holds [
    | inl none' ↦ let least = b.at_most n here in omega (arith, none', least)
    | inr there ↦ let x = a.at_most m there in let y = b.at_most n here in omega (arith, x, y)
  ]
]

-- a property that no number has has the greatest number 0
pub none_greatest : (P : ℕ → Type 0) → ((n : ℕ) → P n → ⊥) → IsGreatest P 0
none_greatest P none = record { holds = inl refl; at_most = λ m holds. absurd (none m holds) }

-- properties that hold of the same numbers have the same greatest one
pub greatest_same : (P Q : ℕ → Type 0) (n : ℕ) → ((m : ℕ) → P m → Q m) → ((m : ℕ) → Q m → P m) → IsGreatest P n → IsGreatest Q n
greatest_same P Q n there back a = record {
  holds = elim a.holds [
    | inl none ↦ inl none
    | inr here ↦ inr (there n here)
  ];
  at_most = λ m holds. a.at_most m (back m holds);
}

-- a Grant after one more entry was one to the pledge in both
grant_to_there : (h g : List Entry) (e : Entry) (p : PledgeId) → Next h g e → IsGrantTo (h ++ e ∷ []) p e
    → IsGrantTo (g ++ e ∷ []) p e
grant_to_there h g (Grant time context number address until) p s granted =
    next_owner h g (Grant time context number address until) time context number address until p s refl granted
grant_to_there h g _ p s granted = absurd granted

given_to_there : (h g : List Entry) (e : Entry) (p : PledgeId) (epoch : ℕ) → Next h g e → IsGivenTo (h ++ e ∷ []) p epoch e
    → IsGivenTo (g ++ e ∷ []) p epoch e
given_to_there h g (Given time context number f) p epoch s given =
    let may = s.may in
    let e = Given time context number f in
    let same = one_pledge (h ++ e ∷ []) context may.0 p (pledge_of-append h (e ∷ []) context may.0 may.1) given.0 in
    (pledge_of-append g (e ∷ []) context p (sym (same_pledge h g context s.twins) ∙ may.1 ∙ ap (λ x. Some x) same), given.1)
given_to_there h g _ p epoch s given = absurd given

-- ---- epochs that a pledge has

newest_step_roll : (h : List Entry) (time : ℕ) (set : KeySet) (keys : Phase) → IsNextEpoch keys set.epoch
    → set.epoch ≡ epoch_of (rolled keys set)
newest_step_roll h time set None next = refl
newest_step_roll h time set (Steady old) next = refl
newest_step_roll h time set (Spreading old new) next = absurd next

switched_newest : (keys : Phase) → epoch_of (switched keys) ≡ epoch_of keys
switched_newest None = refl
switched_newest (Steady set) = refl
switched_newest (Spreading old new) = refl

-- the epoch was rolled, or there is none
abbrev pub IsRolled : List Entry → ℕ → Type 0
IsRolled h epoch = (epoch ≡ 0) ⊎ ((roll : Entry) × Contains h roll × IsRollOf epoch roll)

rolled_longer : (h : List Entry) (e : Entry) (epoch : ℕ) → IsRolled h epoch → IsRolled (h ++ e ∷ []) epoch
rolled_longer h e epoch (inl none) = inl none
rolled_longer h e epoch (inr found) = inr (found.0, Contains-append_left h (e ∷ []) found.0 found.1, found.2)

newest_step : (h : List Entry) (e : Entry) → MayFollow h e → IsRolled h (epoch_of (phase h))
    → IsRolled (h ++ e ∷ []) (epoch_of (phase_after (phase h) e))
newest_step h (Roll time set) may so_far =
    inr (Roll time set, Contains-pushed h (Roll time set), newest_step_roll h time set (phase h) may.1.epoch)
newest_step h (Switch time epoch) may so_far =
    subst (IsRolled (h ++ Switch time epoch ∷ [])) (sym (switched_newest (phase h))) (rolled_longer h (Switch time epoch) (epoch_of (phase h)) so_far)
newest_step h (SettingsEntry time settings) may so_far = rolled_longer h (SettingsEntry time settings) (epoch_of (phase h)) so_far
newest_step h (Enroll context id check) may so_far = rolled_longer h (Enroll context id check) (epoch_of (phase h)) so_far
newest_step h (Grant time context number address until) may so_far = rolled_longer h (Grant time context number address until) (epoch_of (phase h)) so_far
newest_step h (Refuse time context number why) may so_far = rolled_longer h (Refuse time context number why) (epoch_of (phase h)) so_far
newest_step h (Block context to) may so_far = rolled_longer h (Block context to) (epoch_of (phase h)) so_far
newest_step h (Given time context number epoch) may so_far = rolled_longer h (Given time context number epoch) (epoch_of (phase h)) so_far
newest_step h (Stale time id epoch) may so_far = rolled_longer h (Stale time id epoch) (epoch_of (phase h)) so_far
newest_step h (Release time id) may so_far = rolled_longer h (Release time id) (epoch_of (phase h)) so_far

-- the newest epoch was rolled
pub newest_rolled : (h : List Entry) → IsLegal h → IsRolled h (epoch_of (phase h))
newest_rolled =
    legal_induction (λ h. IsRolled h (epoch_of (phase h))) (inl refl)
    (λ h e legal may so_far. subst (λ keys. IsRolled (h ++ e ∷ []) (epoch_of keys)) (sym (phase-push h e)) (newest_step h e may so_far))

-- a list is split at each element that it contains
contains_split : {X : Type 0} (xs : List X) (x : X) → Contains xs x
    → (before : List X) × (after : List X) × (xs ≡ before ++ x ∷ after)
contains_split [] x has = absurd (omega (arith, has.1))
contains_split (y ∷ ys) x (zero, small, is) = ([], ys, ap (λ z. z ∷ ys) is)
contains_split (y ∷ ys) x (suc k, small, is) =
    let rest = contains_split ys x (k, omega (arith, small), is) in (y ∷ rest.0, rest.1, ap (λ l. y ∷ l) rest.2)

pub no_any : {X : Type 0} {P : X → Type 0} → Any P [] → ⊥
no_any some = omega (arith, some.2)

-- no entry is both a Grant and a Stale
grant_or_stale : (h : List Entry) (e : Entry) (p : PledgeId) (epoch : ℕ) → IsGrantTo h p e → IsStaleOf p epoch e → ⊥
grant_or_stale h (Grant time context number address until) p epoch granted stale = stale
grant_or_stale h _ p epoch granted stale = granted

-- what a Given says it said before more followed
given_before : (h : List Entry) (e x : Entry) (p : PledgeId) (epoch : ℕ) → IsLegal h → Contains h x
    → IsGivenTo (h ++ e ∷ []) p epoch x → IsGivenTo h p epoch x
given_before h e (Given time context number f) p epoch legal has given =
    let known = given_enrolled h time context number f legal has in
    let same = one_pledge (h ++ e ∷ []) context known.0 p (pledge_of-append h (e ∷ []) context known.0 known.1) given.0 in
    (known.1 ∙ ap (λ x. Some x) same, given.1)
given_before h e _ p epoch legal has given = absurd given

-- a Grant brings each epoch that was rolled
granted_has : (h : List Entry) (e : Entry) (p : PledgeId) (epoch : ℕ) (roll : Entry) → IsGrantTo (h ++ e ∷ []) p e
    → Contains h roll → IsRollOf epoch roll → Has (h ++ e ∷ []) p epoch
granted_has h e p epoch roll granted has is =
    let split = contains_split h roll has in
    let since : IsGrantedSince (h ++ e ∷ []) p epoch = record {
      before = split.0;
      roll = roll;
      after = split.1 ++ e ∷ [];
      place = middle_append h split.0 split.1 (e ∷ []) roll split.2;
      is_roll = is;
      granted = Any-from_contains (IsGrantTo (h ++ e ∷ []) p) (split.1 ++ e ∷ []) e (Contains-pushed split.1 e) granted;
    } in
    inl since

-- an entry that is a Grant leaves the phase
grant_keeps_phase : (h : List Entry) (e : Entry) (p : PledgeId) (keys : Phase) → IsGrantTo h p e → phase_after keys e ≡ keys
grant_keeps_phase h (Grant time context number address until) p keys granted = refl
grant_keeps_phase h _ p keys granted = absurd granted

-- after a Grant the newest epoch is the greatest that the pledge has
pub granted_greatest : (h : List Entry) (e : Entry) (p : PledgeId) → IsLegal h → MayFollow h e → IsGrantTo (h ++ e ∷ []) p e
    → IsGreatest (Has (h ++ e ∷ []) p) (epoch_of (phase h))
granted_greatest h e p legal may granted =
    let same : phase (h ++ e ∷ []) ≡ phase h = phase-push h e ∙ grant_keeps_phase (h ++ e ∷ []) e p (phase h) granted in
    let most : (m : ℕ) → Has (h ++ e ∷ []) p m → m ≤ epoch_of (phase h) = λ m has.
    let range = has_epoch (h ++ e ∷ []) p m (IsLegal-push h e legal may) has in
    subst (λ keys. m ≤ epoch_of keys) same range.1 in
    record {
      holds = elim (newest_rolled h legal) [
        | inl none ↦ inl none
        | inr found ↦ inr (granted_has h e p (epoch_of (phase h)) found.0 granted found.1 found.2)
      ];
      at_most = most;
    }

-- after a Given or a Stale of the epoch that is handed out that epoch is the greatest
pub spoken_greatest : (P : ℕ → Type 0) (newest epoch : ℕ) → ((m : ℕ) → P m → m ≤ newest) → epoch ≡ newest → P epoch
    → IsGreatest P newest
spoken_greatest P newest epoch most same holds = record { holds = inr (subst P same holds); at_most = most }

-- an epoch that a pledge has after an entry that is no Grant to it and no Given of it
pub has_before : (h : List Entry) (e : Entry) (p : PledgeId) (epoch : ℕ) → IsLegal h → (IsGrantTo (h ++ e ∷ []) p e → ⊥)
    → (IsGivenTo (h ++ e ∷ []) p epoch e → ⊥) → Has (h ++ e ∷ []) p epoch → Has h p epoch
has_before h e p epoch legal no_grant no_given (inl since) =
    elim (in_pushed h e since.before since.roll since.after since.place) [
      | Last whole same none ↦ absurd (no_any (subst (Any (IsGrantTo (h ++ e ∷ []) p)) none since.granted))
      | Earlier rest place after ↦
          let some = subst (Any (IsGrantTo (h ++ e ∷ []) p)) after since.granted in
          let before : IsGrantedSince h p epoch = record {
            before = since.before;
            roll = since.roll;
            after = rest;
            place = place;
            is_roll = since.is_roll;
            granted = elim (Contains-push_cases rest e some.1 (some.0, some.2, some.3)) [
              | inl old ↦ Any-from_contains (IsGrantTo h p) rest some.1 old
                  (IsGrantTo-before h (e ∷ []) p some.1 legal (Contains-in_after h since.before rest since.roll some.1 place old) some.4)
              | inr new ↦ absurd (no_grant (subst (IsGrantTo (h ++ e ∷ []) p) (sym new) some.4))
            ];
          } in
          inl before
    ]
has_before h e p epoch legal no_grant no_given (inr given) =
    elim (Contains-push_cases h e given.1 (given.0, given.2, given.3)) [
      | inl old ↦ inr (Any-from_contains (IsGivenTo h p epoch) h given.1 old (given_before h e given.1 p epoch legal old given.4))
      | inr new ↦ absurd (no_given (subst (IsGivenTo (h ++ e ∷ []) p epoch) (sym new) given.4))
    ]

-- the entry says of the pledge that it has some epoch, or not
pub given_some : (h : List Entry) (e : Entry) (p : PledgeId)
    → ((epoch : ℕ) × IsGivenTo h p epoch e) ⊎ ((epoch : ℕ) → IsGivenTo h p epoch e → ⊥)
given_some h (Given time context number f) p = elim (owner_decides h context p) [
  | inl owner ↦ inl (f, (owner, refl))
  | inr not ↦ inr (λ epoch given. not given.0)
]
given_some h _ p = inr (λ epoch given. given)

pub stale_some : (e : Entry) (p : PledgeId) → ((epoch : ℕ) × IsStaleOf p epoch e) ⊎ ((epoch : ℕ) → IsStaleOf p epoch e → ⊥)
stale_some (Stale time id f) p = elim (pledge_decides id p) [
  | inl same ↦ inl (f, (same, refl))
  | inr other ↦ inr (λ epoch stale. other stale.0)
]
stale_some _ p = inr (λ epoch stale. stale)

-- a Given and a Stale speak of the newest epoch
pub given_newest : (h : List Entry) (e : Entry) (p : PledgeId) (epoch : ℕ) → MayFollow h e → IsGivenTo (h ++ e ∷ []) p epoch e
    → epoch ≡ epoch_of (phase (h ++ e ∷ []))
given_newest h (Given time context number f) p epoch may given =
    sym given.1 ∙ spread_newest (phase h) f may.2.1 ∙ ap epoch_of (sym (phase-push h (Given time context number f)))
given_newest h _ p epoch may given = absurd given

pub stale_newest : (h : List Entry) (e : Entry) (p : PledgeId) (epoch : ℕ) → MayFollow h e → IsStaleOf p epoch e
    → epoch ≡ epoch_of (phase (h ++ e ∷ []))
stale_newest h (Stale time id f) p epoch may stale =
    sym stale.1 ∙ spread_newest (phase h) f may.0.1 ∙ ap epoch_of (sym (phase-push h (Stale time id f)))
stale_newest h _ p epoch may stale = absurd stale

-- a Given makes the newest epoch the greatest that the pledge has
given_greatest : (h g : List Entry) (e : Entry) (p : PledgeId) (epoch : ℕ) → Next h g e → IsGivenTo (h ++ e ∷ []) p epoch e
    → IsGreatest (Has (h ++ e ∷ []) p) (epoch_of (phase (h ++ e ∷ [])))
given_greatest h g e p epoch s given =
    spoken_greatest (Has (h ++ e ∷ []) p) (epoch_of (phase (h ++ e ∷ []))) epoch
    (λ m has. (has_epoch (h ++ e ∷ []) p m (next_legal h g e s) has).1) (given_newest h e p epoch s.may given)
    (inr (Any-from_contains (IsGivenTo (h ++ e ∷ []) p epoch) (h ++ e ∷ []) e (Contains-pushed h e) given))

-- the greatest epoch that a pledge has, after one more entry that is no Grant to it
next_has : (h g : List Entry) (e : Entry) (p : PledgeId) (n old : ℕ) → Next h g e → (IsGrantTo (h ++ e ∷ []) p e → ⊥)
    → IsGreatest (Has h p) old → IsGreatest (Has g p) old → IsGreatest (Has (h ++ e ∷ []) p) n
    → IsGreatest (Has (g ++ e ∷ []) p) n
next_has h g e p n old s not a b is = elim (given_some (h ++ e ∷ []) e p) [
  | inl given ↦
      let here = given_greatest h g e p given.0 s given.1 in
      let there = given_greatest g h e p given.0 (turn_next h g e s) (given_to_there h g e p given.0 s given.1) in
      let same = greatest_unique (Has (h ++ e ∷ []) p) (epoch_of (phase (h ++ e ∷ []))) n here is in
      subst (IsGreatest (Has (g ++ e ∷ []) p)) (ap epoch_of (sym (next_phase h g e s)) ∙ same) there
  | inr none ↦
      let here = greatest_same (Has h p) (Has (h ++ e ∷ []) p) old (λ m. Has-append h (e ∷ []) p m)
      (λ m. has_before h e p m s.twins.legal not (none m)) a in
      let same = greatest_unique (Has (h ++ e ∷ []) p) old n here is in
      let not_other : IsGrantTo (g ++ e ∷ []) p e → ⊥ = λ granted. not (grant_to_there g h e p (turn_next h g e s) granted) in
      subst (IsGreatest (Has (g ++ e ∷ []) p)) same
      (greatest_same (Has g p) (Has (g ++ e ∷ []) p) old (λ m. Has-append g (e ∷ []) p m)
      (λ m. has_before g e p m s.twins.legal_other not_other
      (λ given. none m (given_to_there g h e p m (turn_next h g e s) given))) b)
]

-- ---- epochs for which a pledge is stale

-- after a Grant the pledge is stale for nothing
pub granted_not_stale : (h : List Entry) (e : Entry) (p : PledgeId) (epoch : ℕ) → IsGrantTo (h ++ e ∷ []) p e
    → IsStaleFor (h ++ e ∷ []) p epoch → ⊥
granted_not_stale h e p epoch granted stale =
    elim (in_pushed h e stale.before stale.stale stale.after stale.place) [
      | Last whole same none ↦ grant_or_stale (h ++ e ∷ []) e p epoch granted (subst (IsStaleOf p epoch) (sym same) stale.is_stale)
      | Earlier rest place after ↦
          All-contains (λ x. IsGrantTo (h ++ e ∷ []) p x → ⊥) (rest ++ e ∷ []) e
          (subst (All (λ x. IsGrantTo (h ++ e ∷ []) p x → ⊥)) after stale.none_since) (Contains-pushed rest e) granted
    ]

-- what a pledge is stale for after an entry that is no Stale of it, it was stale for before
pub stale_before : (h : List Entry) (e : Entry) (p : PledgeId) (epoch : ℕ) → (IsStaleOf p epoch e → ⊥)
    → IsStaleFor (h ++ e ∷ []) p epoch → IsStaleFor h p epoch
stale_before h e p epoch not stale =
    elim (in_pushed h e stale.before stale.stale stale.after stale.place) [
      | Last whole same none ↦ absurd (not (subst (IsStaleOf p epoch) (sym same) stale.is_stale))
      | Earlier rest place after ↦
          let since = subst (All (λ x. IsGrantTo (h ++ e ∷ []) p x → ⊥)) after stale.none_since in record {
            before = stale.before;
            stale = stale.stale;
            after = rest;
            place = place;
            is_stale = stale.is_stale;
            none_since = All-from_contains (λ x. IsGrantTo h p x → ⊥) rest
                (λ x has granted. All-contains (λ y. IsGrantTo (h ++ e ∷ []) p y → ⊥) (rest ++ e ∷ []) x since
                (Contains-append_left rest (e ∷ []) x has) (IsGrantTo-append h (e ∷ []) p x granted));
          }
    ]

stale_greatest : (h g : List Entry) (e : Entry) (p : PledgeId) (epoch : ℕ) → Next h g e → IsStaleOf p epoch e
    → IsGreatest (IsStaleFor (h ++ e ∷ []) p) (epoch_of (phase (h ++ e ∷ [])))
stale_greatest h g e p epoch s stale =
    let is : IsStaleFor (h ++ e ∷ []) p epoch = record {
      before = h;
      stale = e;
      after = [];
      place = refl;
      is_stale = stale;
      none_since = All-nil (λ x. IsGrantTo (h ++ e ∷ []) p x → ⊥);
    } in
    spoken_greatest (IsStaleFor (h ++ e ∷ []) p) (epoch_of (phase (h ++ e ∷ []))) epoch
    (λ m there. (stale_epoch (h ++ e ∷ []) p m (next_legal h g e s) there).1) (stale_newest h e p epoch s.may stale) is

next_stale : (h g : List Entry) (e : Entry) (p : PledgeId) (n old : ℕ) → Next h g e → (IsGrantTo (h ++ e ∷ []) p e → ⊥)
    → IsGreatest (IsStaleFor h p) old → IsGreatest (IsStaleFor g p) old → IsGreatest (IsStaleFor (h ++ e ∷ []) p) n
    → IsGreatest (IsStaleFor (g ++ e ∷ []) p) n
next_stale h g e p n old s not a b is = elim (stale_some e p) [
  | inl stale ↦
      let here = stale_greatest h g e p stale.0 s stale.1 in
      let there = stale_greatest g h e p stale.0 (turn_next h g e s) stale.1 in
      let same = greatest_unique (IsStaleFor (h ++ e ∷ []) p) (epoch_of (phase (h ++ e ∷ []))) n here is in
      subst (IsGreatest (IsStaleFor (g ++ e ∷ []) p)) (ap epoch_of (sym (next_phase h g e s)) ∙ same) there
  | inr none ↦
      let here = greatest_same (IsStaleFor h p) (IsStaleFor (h ++ e ∷ []) p) old
      (λ m. IsStaleFor-push h e p m s.twins.legal not) (λ m. stale_before h e p m (none m)) a in
      let same = greatest_unique (IsStaleFor (h ++ e ∷ []) p) old n here is in
      let not_other : IsGrantTo (g ++ e ∷ []) p e → ⊥ = λ granted. not (grant_to_there g h e p (turn_next h g e s) granted) in
      subst (IsGreatest (IsStaleFor (g ++ e ∷ []) p)) same
      (greatest_same (IsStaleFor g p) (IsStaleFor (g ++ e ∷ []) p) old
      (λ m. IsStaleFor-push g e p m s.twins.legal_other not_other) (λ m. stale_before g e p m (none m)) b)
]

-- ---- nodes

-- the node of a pledge that was just granted a lease
granted_node : (h g : List Entry) (e : Entry) (x : SumNode) → Next h g e → (is : IsSumNode (h ++ e ∷ []) x)
    → e ≡ Grant is.time x.context is.number is.address is.until → IsGrantTo (h ++ e ∷ []) x.id e → IsSumNode (g ++ e ∷ []) x
granted_node h g e x s is new granted =
    let there = grant_to_there h g e x.id s granted in
    let t = s.twins in
    let has = granted_greatest h e x.id t.legal s.may granted in
    let has_other = granted_greatest g e x.id t.legal_other s.may_other there in
    let same_has = greatest_unique (Has (h ++ e ∷ []) x.id) (epoch_of (phase h)) x.has has is.has in
    let none = none_greatest (IsStaleFor (h ++ e ∷ []) x.id) (λ m. granted_not_stale h e x.id m granted) in
    let none_other = none_greatest (IsStaleFor (g ++ e ∷ []) x.id) (λ m. granted_not_stale g e x.id m there) in
    let same_stale = greatest_unique (IsStaleFor (h ++ e ∷ []) x.id) 0 x.stale none is.stale in
    let effect = subst (IsInEffect (h ++ e ∷ []) x.id) new (IsInEffect-pushed h e x.id) in
    let effect_other = subst (IsInEffect (g ++ e ∷ []) x.id) new (IsInEffect-pushed g e x.id) in
    record {
      time = is.time;
      number = is.number;
      address = is.address;
      until = is.until;
      last = subst (IsLast (IsGrantTo (g ++ e ∷ []) x.id) (g ++ e ∷ [])) new (IsLast-pushed (IsGrantTo (g ++ e ∷ []) x.id) g e there);
      lease = elim is.lease [
        | inl lease ↦ inl (effect_other, lease.1, lease.2)
        | inr released ↦ absurd (released.0 effect)
      ];
      has = subst (IsGreatest (Has (g ++ e ∷ []) x.id)) (ap epoch_of (sym (same_phase h g t)) ∙ same_has) has_other;
      stale = subst (IsGreatest (IsStaleFor (g ++ e ∷ []) x.id)) same_stale none_other;
    }

-- an older Grant's effect after one more entry
pub effect_before : (h : List Entry) (e x : Entry) (p : PledgeId) → (IsGrantTo (h ++ e ∷ []) p e → ⊥) → IsGrantTo (h ++ e ∷ []) p x
    → IsInEffect (h ++ e ∷ []) p x → IsInEffect h p x × (IsReleaseOf p e → ⊥)
effect_before h e x p not granted effect = elim (IsInEffect-cases h e x p effect) [
  | inl new ↦ absurd (not (subst (IsGrantTo (h ++ e ∷ []) p) (sym new) granted))
  | inr old ↦ old
]

-- a node's lease, after one more entry that is no Grant to the pledge
kept_lease : (h g : List Entry) (e : Entry) (x y : SumNode) (t c n a u t' n' a' u' : ℕ) → Next h g e
    → (IsGrantTo (h ++ e ∷ []) x.id e → ⊥) → IsGrantTo h x.id (Grant t c n a u)
    → IsNodeLease (h ++ e ∷ []) x (Grant t c n a u) → y.id ≡ x.id → IsNodeLease h y (Grant t c n a u)
    → IsNodeLease g y (Grant t' c n' a' u') → IsGrantTo g x.id (Grant t' c n' a' u')
    → IsNodeLease (g ++ e ∷ []) x (Grant t' c n' a' u')
kept_lease h g e x y t c n a u t' n' a' u' s not granted (inl lease) id here there granted_there =
    let grant = Grant t c n a u in
    let grant' = Grant t' c n' a' u' in
    let old = effect_before h e grant x.id not (IsGrantTo-append h (e ∷ []) x.id grant granted) lease.0 in
    elim here [
      | inr released ↦ absurd (released.0 (subst (λ q. IsInEffect h q grant) (sym id) old.0))
      | inl mine ↦ elim there [
        | inl its ↦
            let effect = IsInEffect-push g e grant' x.id old.1 (subst (λ q. IsInEffect g q grant') id its.0) in
            inl (effect, lease.1 ∙ sym mine.1 ∙ its.1, lease.2 ∙ sym mine.2 ∙ its.2)
        | inr its ↦ inr (
          (λ effect.
              its.0 (subst (λ q. IsInEffect g q grant') (sym id)
              (effect_before g e grant' x.id
              (λ again. not (grant_to_there g h e x.id (turn_next h g e s) again))
              (IsGrantTo-append g (e ∷ []) x.id grant' granted_there) effect).0)),
          lease.1 ∙ sym mine.1 ∙ its.1,
          lease.2 ∙ sym mine.2 ∙ its.2,
        )
      ]
    ]
kept_lease h g e x y t c n a u t' n' a' u' s not granted (inr gone) id here there granted_there =
    let grant = Grant t c n a u in
    let grant' = Grant t' c n' a' u' in
    let not_other : IsGrantTo (g ++ e ∷ []) x.id e → ⊥ = λ again. not (grant_to_there g h e x.id (turn_next h g e s) again) in
    let before : IsInEffect (g ++ e ∷ []) x.id grant' → IsInEffect g x.id grant' × (IsReleaseOf x.id e → ⊥) =
    effect_before g e grant' x.id not_other (IsGrantTo-append g (e ∷ []) x.id grant' granted_there) in
    elim (release_decides x.id e) [
      | inl released ↦ inr ((λ effect. (before effect).1 released), gone.1, gone.2)
      | inr kept ↦ elim here [
        | inl mine ↦ absurd (gone.0 (IsInEffect-push h e grant x.id kept (subst (λ q. IsInEffect h q grant) id mine.0)))
        | inr mine ↦ elim there [
          | inl its ↦ inl (
            IsInEffect-push g e grant' x.id kept (subst (λ q. IsInEffect g q grant') id its.0),
            gone.1 ∙ sym mine.1 ∙ its.1,
            gone.2 ∙ sym mine.2 ∙ its.2,
          )
          | inr its ↦ inr ((λ effect. its.0 (subst (λ q. IsInEffect g q grant') (sym id) (before effect).0)), gone.1, gone.2)
        ]
      ]
    ]

-- a node's lease is that of its last Grant
lease_of_last : (h : List Entry) (y : SumNode) (x : PledgeId) (t c n a u : ℕ) → (of : IsSumNode h y) → y.id ≡ x
    → IsLast (IsGrantTo h x) h (Grant t c n a u) → (c ≡ y.context) × IsNodeLease h y (Grant t c n a u)
lease_of_last h y x t c n a u of id last =
    let own = subst (λ q. IsLast (IsGrantTo h q) h (Grant t c n a u)) (sym id) last in
    let same = IsLast-unique (IsGrantTo h y.id) h (Grant of.time y.context of.number of.address of.until) (Grant t c n a u) of.last own in
    let context : c ≡ y.context = cc (same) in
    (context, subst (IsNodeLease h y) same of.lease)

-- the node that was shared before gives the node after
kept_as : (h g : List Entry) (e : Entry) (x : SumNode) → Next h g e → (is : IsSumNode (h ++ e ∷ []) x)
    → IsLast (IsGrantTo h x.id) h (Grant is.time x.context is.number is.address is.until) → (IsGrantTo (h ++ e ∷ []) x.id e → ⊥)
    → (y : SumNode) → y.id ≡ x.id → IsSumNode h y → IsSumNode g y → IsSumNode (g ++ e ∷ []) x
kept_as h g e x s is old not y id of of_other =
    let t = s.twins in
    let mine = lease_of_last h y x.id is.time x.context is.number is.address is.until of id old in
    let its = subst (λ q. IsLast (IsGrantTo g q) g (Grant of_other.time y.context of_other.number of_other.address of_other.until)) id of_other.last in
    let last = subst (λ (c : ℕ). IsLast (IsGrantTo g x.id) g (Grant of_other.time c of_other.number of_other.address of_other.until)) (sym mine.0) its in
    let grant' = Grant of_other.time x.context of_other.number of_other.address of_other.until in
    let lease' = subst (λ (c : ℕ). IsNodeLease g y (Grant of_other.time c of_other.number of_other.address of_other.until)) (sym mine.0) of_other.lease in
    let not_other : IsGrantTo (g ++ e ∷ []) x.id e → ⊥ = λ again. not (grant_to_there g h e x.id (turn_next h g e s) again) in
    record {
      time = of_other.time;
      number = of_other.number;
      address = of_other.address;
      until = of_other.until;
      last = IsLast-kept (IsGrantTo g x.id) (IsGrantTo (g ++ e ∷ []) x.id) g grant' e
          (λ z granted has. IsGrantTo-before g (e ∷ []) x.id z t.legal_other has granted)
          (IsGrantTo-append g (e ∷ []) x.id grant' last.holds) not_other last;
      lease = kept_lease h g e x y is.time x.context is.number is.address is.until of_other.time of_other.number of_other.address
          of_other.until s not old.holds is.lease id mine.1 lease' last.holds;
      has = next_has h g e x.id x.has y.has s not (subst (λ q. IsGreatest (Has h q) y.has) id of.has)
          (subst (λ q. IsGreatest (Has g q) y.has) id of_other.has) is.has;
      stale = next_stale h g e x.id x.stale y.stale s not (subst (λ q. IsGreatest (IsStaleFor h q) y.stale) id of.stale)
          (subst (λ q. IsGreatest (IsStaleFor g q) y.stale) id of_other.stale) is.stale;
    }

-- the node of a pledge that wasn't just granted a lease
kept_node : (h g : List Entry) (e : Entry) (x : SumNode) → Next h g e → (is : IsSumNode (h ++ e ∷ []) x)
    → IsLast (IsGrantTo h x.id) h (Grant is.time x.context is.number is.address is.until) → (IsGrantTo (h ++ e ∷ []) x.id e → ⊥)
    → IsSumNode (g ++ e ∷ []) x
kept_node h g e x s is old not =
    let t = s.twins in
    let grant = Grant is.time x.context is.number is.address is.until in
    let granted = Any-from_contains (IsGrantTo h x.id) h grant (IsLast-contains (IsGrantTo h x.id) h grant old) old.holds in
    let y = shared_node h g x.id t granted in
    kept_as h g e x s is old not y.said y.id y.of y.of_other

pub next_node : (h g : List Entry) (e : Entry) (x : SumNode) → Next h g e → IsSumNode (h ++ e ∷ []) x
    → IsSumNode (g ++ e ∷ []) x
next_node h g e x s is =
    let grant = Grant is.time x.context is.number is.address is.until in
    elim (IsLast-push_cases (IsGrantTo h x.id) (IsGrantTo (h ++ e ∷ []) x.id) h grant e
    (λ z has. IsGrantTo-append h (e ∷ []) x.id z) (λ z has. IsGrantTo-before h (e ∷ []) x.id z s.twins.legal has) is.last) [
      | inl new ↦ granted_node h g e x s is (sym new.0) new.1
      | inr old ↦ kept_node h g e x s is old.0 old.1
    ]

-- a pledge with a Grant in the one has one in the other
next_granted : (h g : List Entry) (e : Entry) (p : PledgeId) → Next h g e → Any (IsGrantTo (h ++ e ∷ []) p) (h ++ e ∷ [])
    → Any (IsGrantTo (g ++ e ∷ []) p) (g ++ e ∷ [])
next_granted h g e p s some = elim (Contains-push_cases h e some.1 (some.0, some.2, some.3)) [
  | inl old ↦
      let granted = IsGrantTo-before h (e ∷ []) p some.1 s.twins.legal old some.4 in
      let y = shared_node h g p s.twins (Any-from_contains (IsGrantTo h p) h some.1 old granted) in
      let there = y.of_other in
      let grant = Grant there.time y.said.context there.number there.address there.until in
      let owned = subst (λ q. IsGrantTo g q grant) y.id there.last.holds in
      Any-from_contains (IsGrantTo (g ++ e ∷ []) p) (g ++ e ∷ []) grant
      (Contains-append_left g (e ∷ []) grant (IsLast-contains (IsGrantTo g y.said.id) g grant there.last))
      (IsGrantTo-append g (e ∷ []) p grant owned)
  | inr new ↦
      let granted = subst (IsGrantTo (h ++ e ∷ []) p) (sym new) some.4 in
      Any-from_contains (IsGrantTo (g ++ e ∷ []) p) (g ++ e ∷ []) e (Contains-pushed g e) (grant_to_there h g e p s granted)
]

-- the summary after one more entry is fixed by the summary before it and by the entry
pub next_summary : (h g : List Entry) (e : Entry) (s : Summary) → Next h g e → IsSummary (h ++ e ∷ []) s
    → IsSummary (g ++ e ∷ []) s
next_summary h g e s n is =
    let back = turn_next h g e n in record {
      time = is.time ∙ next_time h g e n;
      settings = is.settings ∙ next_settings h g e n;
      phase_in_force = is.phase_in_force ∙ next_phase h g e n;
      context_count = is.context_count ∙ next_count h g e n;
      contexts = λ c x small. next_context h g e c (get_or s.contexts c x) n (is.contexts c x small);
      grants_ascend = is.grants_ascend;
      grants = λ x. (
        (λ has. next_grant h g e x n ((is.grants x).0 has)),
        (λ held. (is.grants x).1 (next_grant g h e x back held)),
      );
      nodes_ascend = is.nodes_ascend;
      nodes = λ x has. next_node h g e x n (is.nodes x has);
      every_node = λ p granted. is.every_node p (next_granted g h e p back granted);
    }
