-- What the state says of keys, and of the last decision of a context.
use Rattle.std.proofs.Common.{◌≡◌, ◌↔◌, ◌⊎◌, inl, inr, ℕ, ◌<◌, ◌≤◌, Bool, true, false, IsTrue, List, Option, Some, None, MatchOption, refl, sym, ◌∙◌, subst, arith}
use Rattle.std.specs.Option.{is_some}
use Rattle.std.specs.Prelude.{not}
use Rattle.std.proofs.lemmas.Bool.{false≢true, not-true, not-false}
use Rattle.edge_traits.specs.declared.names.PledgeId.{PledgeId}
use Rattle.key_sets.specs.declared.set.KeySet.{KeySet}
use Rattle.journal_text.specs.declared.entry.Entry.{Entry}
use Rattle.journal_text.specs.declared.entry.Entry.TheVariants.{Grant, Refuse, Given}
use Rattle.join_history.specs.Contexts.{context_count}
use Rattle.join_history.specs.Decisions.{IsDecision, HasNumber, IsLastDecision}
use Rattle.join_history.specs.Leases.{IsLive}
use Rattle.join_history.specs.Phases.{phase, IsSpreading, IsNextSet}
use Rattle.join_history.specs.Epochs.{Has, IsStaleFor}
use Rattle.join_history.specs.Legal.{IsLegal, Lacks, MayFollow}
use Rattle.join_history.specs.Updates.{Waits, IsFirstWaiting}
use Rattle.join_history.proofs.LastLemmas.{IsLast-contains}
use Rattle.join_history.proofs.DecisionLemmas.{HasNumber-from_contains}
use Rattle.join_history.proofs.KnownLemmas.{enrolled_below, number_below}
use Rattle.join_history.proofs.LeaseLemmas.{one_pledge}
use Rattle.join_history.proofs.AlikeLemmas.{spread_newest}
use Rattle.registrar_state.specs.declared.contexts.LastRequest.{LastRequest}
use Rattle.registrar_state.specs.declared.contexts.Row.{Row}
use Rattle.registrar_state.specs.declared.last.Last.{Last}
use Rattle.registrar_state.specs.declared.last.Last.TheVariants as last
use Rattle.registrar_state.specs.declared.state.RegState.{RegState}
use Rattle.rekey_core.specs.Held.{Held}
use Rattle.registrar_state.specs.Contexts.{IsLastOf, IsRow}
use Rattle.registrar_state.specs.Last.{IsTold, IsLastAnswer}
use Rattle.registrar_state.specs.LastGrants.{AreEpochs}
use Rattle.registrar_state.specs.Pledges.{KnowPledges}
use Rattle.registrar_state.specs.State.{StandsFor}
use Rattle.registrar_state.proofs.ContextSteps.{row_pledge}
use Rattle.registrar_state.proofs.DueLemmas.{last_of_row}
use Rattle.registrar_state.proofs.PledgeEpochs.{has_spread, stale_spread}
use Rattle.registrar_state.proofs.StateLemmas.{known_of}

-- ---- the phase

pub next_set : (state : RegState) (h : List Entry) (set : KeySet) (b : Bool) → StandsFor state h
    → IsTrue b ↔ IsNextSet state.phase set → IsTrue b ↔ IsNextSet (phase h) set
next_set state h set b stands is = subst (λ keys. IsTrue b ↔ IsNextSet keys set) (known_of state h stands).keys is

pub spreading : (state : RegState) (h : List Entry) (epoch : ℕ) (b : Bool) → StandsFor state h
    → IsTrue b ↔ IsSpreading state.phase epoch → IsTrue b ↔ IsSpreading (phase h) epoch
spreading state h epoch b stands is = subst (λ keys. IsTrue b ↔ IsSpreading keys epoch) (known_of state h stands).keys is

-- ---- the last decision of a context

decision_number : (h : List Entry) (c : ℕ) (e : Entry) → IsLastDecision h c e → (n : ℕ) × HasNumber h c n
decision_number h c e is =
    (is.holds.0, HasNumber-from_contains h e c is.holds.0 (IsLast-contains (λ x. (m : ℕ) × IsDecision c m x) h e is) is.holds.1)

-- a context with a decision is enrolled
pub decision_below : (h : List Entry) (c : ℕ) (e : Entry) → IsLegal h → IsLastDecision h c e → context_count h ≤ c → ⊥
decision_below h c e legal is past =
    let has = decision_number h c e is in
    let below = number_below h c has.0 legal has.1 in omega (arith, below, past)

-- a row without a last request is that of a context without a decision
pub no_decision : (h : List Entry) (c : ℕ) (row : Row) (e : Entry) → IsRow h c row → row.last ≡ None → IsLastDecision h c e → ⊥
no_decision h c row e is none last =
    let has = decision_number h c e last in subst (IsLastOf h c) none is.last has.0 has.1

told_there : (h : List Entry) (c n : ℕ) (e : Entry) (told : Last) → IsLastDecision h c e → IsDecision c n e → IsTold e told
    → IsLastAnswer h c told
told_there h c n (Grant time context number address until) (last.Grant a u) is decides told = (
  time,
  number,
  subst (λ (x : ℕ). IsLastDecision h c (Grant time c number x u)) told.0
      (subst (λ (x : ℕ). IsLastDecision h c (Grant time c number address x)) told.1
      (subst (λ (x : ℕ). IsLastDecision h c (Grant time x number address until)) decides.0 is)),
)
told_there h c n (Refuse time context number why) (last.Refuse code) is decides told =
    (time, number, why, subst (λ (x : ℕ). IsLastDecision h c (Refuse time x number why)) decides.0 is, told)
told_there h c n _ told is decides not = absurd not

-- what is reported of the last request is the last answer
pub told_of : (h : List Entry) (c : ℕ) (row : Row) (l : LastRequest) → IsRow h c row → row.last ≡ Some l → IsLastAnswer h c l.told
told_of h c row l is some =
    let request = last_of_row h c row l is some in
    told_there h c l.number request.decision l.told request.last request.number request.told

-- ---- Given, Stale and Switch

pub no_give : (h : List Entry) (time c n epoch : ℕ) → IsLegal h → context_count h ≤ c → MayFollow h (Given time c n epoch) → ⊥
no_give h time c n epoch legal past may = let below = enrolled_below h c may.0 legal may.1 in omega (arith, below, past)

pub may_give : (h : List Entry) (time c n epoch : ℕ) (row : Row) (b : Bool) → IsLegal h → IsRow h c row → n < row.end
    → IsTrue b ↔ Lacks h time row.id epoch → IsTrue b ↔ MayFollow h (Given time c n epoch)
may_give h time c n epoch row b legal is small lacks =
    let owner = row_pledge h c row legal is in (
      λ yes. (row.id, owner, lacks.0 yes, subst (λ (x : ℕ). n < x) is.end small),
      λ may. lacks.1 (subst (λ p. Lacks h time p epoch) (one_pledge h c may.0 row.id may.1 owner) may.2),
    )

-- the test for the opposite
pub opposite : (A : Type 0) (b : Bool) → IsTrue b ↔ A → IsTrue (not b) ↔ (A → ⊥)
opposite A true is = (λ yes. absurd (false≢true yes), λ none. absurd (none (is.0 refl)))
opposite A false is = (λ yes holds. false≢true (is.1 holds), λ none. refl)

-- what a test is for holds or doesn't
holds_or_not : (A : Type 0) (b : Bool) → IsTrue b ↔ A → A ⊎ (A → ⊥)
holds_or_not A true is = inl (is.0 refl)
holds_or_not A false is = inr (λ holds. false≢true (is.1 holds))

-- a live pledge that doesn't wait has the keys or is stale
served : (h : List Entry) (held : Held) (t epoch : ℕ) (p : PledgeId) (a : ℕ) → IsLegal h → AreEpochs h held → IsSpreading (phase h) epoch
    → (Waits h t p epoch → ⊥) → IsLive h t p a → Has h p epoch ⊎ IsStaleFor h p epoch
served h held t epoch p a legal known spread not live =
    elim (holds_or_not (Has h p epoch) _ (has_spread h held p epoch legal known spread)) [
      | inl has ↦ inl has
      | inr lacks ↦ elim (holds_or_not (IsStaleFor h p epoch) _ (stale_spread h held p epoch legal known spread)) [
        | inl stale ↦ inr stale
        | inr fresh ↦ absurd (not (record { spreading = spread; address = a; live = live; lacks = lacks; not_stale = fresh }))
      ]
    ]

-- a Switch waits for no pledge exactly where none was found to wait
pub all_served : (h : List Entry) (held : Held) (t epoch : ℕ) (r : Option PledgeId) (b : Bool) → IsLegal h → AreEpochs h held
    → IsSpreading (phase h) epoch → MatchOption r ((p : PledgeId) → Waits h t p epoch → ⊥) (IsFirstWaiting h t) → is_some r ≡ not b
    → IsTrue b ↔ ((p : PledgeId) (a : ℕ) → IsLive h t p a → Has h p epoch ⊎ IsStaleFor h p epoch)
all_served h held t epoch None b legal known spread none is =
    (λ yes p a live. served h held t epoch p a legal known spread (none p) live, λ all. not-false b (sym is))
all_served h held t epoch (Some p) b legal known spread first is = (
  λ yes. absurd (false≢true (sym (not-true b (sym is)) ∙ yes)),
  λ all.
      let own = first.waits in
      let same = spread_newest (phase h) first.epoch own.spreading ∙ sym (spread_newest (phase h) epoch spread) in
      let waits = subst (Waits h t p) same own in
      absurd (elim (all p waits.address waits.live) [
        | inl has ↦ waits.lacks has
        | inr stale ↦ waits.not_stale stale
      ]),
)

pub all_served_known : (state : RegState) (h : List Entry) (t epoch : ℕ) (r : Option PledgeId) (b : Bool) → StandsFor state h → IsLegal h
    → IsSpreading (phase h) epoch → MatchOption r ((p : PledgeId) → Waits h t p epoch → ⊥) (IsFirstWaiting h t) → is_some r ≡ not b
    → IsTrue b ↔ ((p : PledgeId) (a : ℕ) → IsLive h t p a → Has h p epoch ⊎ IsStaleFor h p epoch)
unfolding KnowPledges
all_served_known state h t epoch r b stands legal =
    all_served h state.pledges.holders t epoch r b legal (known_of state h stands).pledges.1
