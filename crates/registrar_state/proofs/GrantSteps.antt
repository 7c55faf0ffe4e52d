-- What a state knows after a Grant, a Roll, a Given, a Stale, a Switch and a Release.
use Rattle.std.proofs.Common.{◌≡◌, inl, inr, ℕ, ◌≤◌, List, [], ◌∷◌, ◌++◌, Some, get_or, refl, sym, ap, ◌∙◌, subst, arith}
use Rattle.edge_traits.specs.declared.names.PledgeId.{PledgeId}
use Rattle.key_sets.specs.declared.set.KeySet.{KeySet}
use Rattle.key_sets.specs.Keys.{epoch_of}
use Rattle.address_leases.specs.Lent.{Lent}
use Rattle.address_leases.specs.Steps.{Gives, Passes, Releases}
use Rattle.journal_text.specs.declared.settings.Settings.{Settings}
use Rattle.journal_text.specs.declared.entry.Entry.{Entry}
use Rattle.journal_text.specs.declared.entry.Entry.TheVariants.{Grant, Roll, Given, Stale, Switch, Release}
use Rattle.join_history.specs.Contexts.{pledge_of}
use Rattle.join_history.specs.Leases.{current_settings}
use Rattle.join_history.specs.Phases.{phase, rolled, switched}
use Rattle.join_history.specs.Answers.{grant_answer, answer_after}
use Rattle.join_history.proofs.TimeLemmas.{last_time-push}
use Rattle.registrar_state.specs.declared.contexts.LastRequest.{LastRequest}
use Rattle.registrar_state.specs.declared.contexts.Row.{Row}
use Rattle.registrar_state.specs.declared.last.Last.TheVariants as last
use Rattle.registrar_state.specs.declared.state.RegState.{RegState}
use Rattle.registrar_state.specs.Last.{IsTold}
use Rattle.registrar_state.specs.Contexts.{Table, AreRows, Decides}
use Rattle.registrar_state.specs.Leases.{AreLeases}
use Rattle.registrar_state.specs.Pledges.{KnowPledges, KnowsBefore}
use Rattle.join_history.proofs.ConfigurationLemmas.{due_in_range, granted_in_range}
use Rattle.registrar_state.specs.State.{StandsFor, CanFollow, HasSettings}
use Rattle.registrar_state.proofs.ContextSteps.{IsOfNoContext, rows_kept, ChangesRow, IsDecided, rows_decided}
use Rattle.registrar_state.proofs.LeaseSteps.{IsNoLease, leases_kept, leases_passed, leases_granted, leases_released, new_lease}
use Rattle.registrar_state.proofs.PledgeSteps.{KnowPledges-aside}
use Rattle.registrar_state.proofs.StateLemmas.{IsLegal-stands, known_of}
use Rattle.registrar_state.proofs.StateSteps.{stands_next, passed_stays}

-- ---- Grant

grant_answer_after : (h : List Entry) (s : Settings) (time c n a until : ℕ) → current_settings h ≡ Some s
    → grant_answer (phase h) s a ≡ answer_after h (current_settings h) (Grant time c n a until)
grant_answer_after h s time c n a until current =
    subst (λ o. grant_answer (phase h) s a ≡ answer_after h o (Grant time c n a until)) (sym current) refl

grant_decided : (h : List Entry) (s : Settings) (time c n a until : ℕ) (l : LastRequest) → current_settings h ≡ Some s → l.number ≡ n
    → l.time ≡ time → l.told ≡ last.Grant a until → l.answer.items ≡ grant_answer (phase h) s a → IsDecided h (Grant time c n a until) c l
grant_decided h s time c n a until l current number made told answer = record {
  decides = (refl, sym number);
  time = ap (λ (x : ℕ). Some x) (sym made);
  told = subst (IsTold (Grant time c n a until)) (sym told) (refl, refl);
  answer = answer ∙ grant_answer_after h s time c n a until current;
  count = refl;
  no_block = λ d end. refl;
  others = λ d m is. sym is.0;
}

-- what a Grant does to the leases
pub record Leased (time : ℕ) (p : PledgeId) (a until : ℕ) (old new : Lent) : Type 0 where
  pub between : Lent
  pub passes : Passes time old between
  pub gives : Gives (new_lease p a until) between new

pub grant_added : {old : RegState} (new : RegState) (h : List Entry) (time c n a until : ℕ) (p : PledgeId) (l : LastRequest)
    → CanFollow old (Grant time c n a until) → StandsFor old h → pledge_of h c ≡ Some p
    → new.time ≡ time → new.settings ≡ old.settings → new.phase ≡ old.phase
    → ChangesRow c old.contexts.rows new.contexts.rows
    → ((d : Row) → Decides l.number l (get_or old.contexts.rows c d) (get_or new.contexts.rows c d))
    → l.number ≡ n → l.time ≡ time → l.told ≡ last.Grant a until
    → ((s : Settings) → current_settings h ≡ Some s → l.answer.items ≡ grant_answer (phase h) s a)
    → Leased time p a until old.leases new.leases → KnowPledges (h ++ Grant time c n a until ∷ []) new.pledges
    → StandsFor new (h ++ Grant time c n a until ∷ [])
grant_added {old} new h time c n a until p l adds stands owner new_time settings keys changes decides number made told answer leased pledges =
    let e = Grant time c n a until in
    let may = adds.each h stands in
    let knows = known_of old h stands in
    let legal = IsLegal-stands old h stands in
    let before = knows.passed in
    let timely = may.2.timely.not_before in
    let passed = leases_passed h time old.leases leased.between (omega (arith, before, timely)) leased.passes knows.leases in
    stands_next old new h e stands may (record {
      time = new_time;
      settings = settings;
      keys = keys;
      rows = rows_decided h e c l old.contexts.rows new.contexts.rows
          (grant_decided h may.1 time c n a until l may.2.current number made told (answer may.1 may.2.current)) changes decides knows.rows;
      leases = leases_granted h time c n a until p leased.between new.leases legal owner leased.gives passed;
      passed = let first = leased.gives.passed in let second = leased.passes.passed in
          subst (λ (t : ℕ). new.leases.passed ≤ t) (sym (last_time-push h e)) (omega (arith, first, second));
      pledges = pledges;
    })

-- ---- Roll, Given, Stale and Switch

roll_of_no_context : (time : ℕ) (set : KeySet) → IsOfNoContext (Roll time set)
roll_of_no_context time set = record { count = refl; no_decision = λ c n is. is; no_block = λ c end. refl }

roll_no_lease : (time : ℕ) (set : KeySet) → IsNoLease (Roll time set)
roll_no_lease time set = record {
  no_grant = λ made context number a until is. cc (is);
  no_release = λ q is. is;
  no_lease = λ h q lease. elim lease [
    | inl granted ↦ granted
    | inr released ↦ released
  ];
}

given_of_no_context : (time c n epoch : ℕ) → IsOfNoContext (Given time c n epoch)
given_of_no_context time c n epoch = record { count = refl; no_decision = λ d m is. is; no_block = λ d end. refl }

given_no_lease : (time c n epoch : ℕ) → IsNoLease (Given time c n epoch)
given_no_lease time c n epoch = record {
  no_grant = λ made context number a until is. cc (is);
  no_release = λ q is. is;
  no_lease = λ h q lease. elim lease [
    | inl granted ↦ granted
    | inr released ↦ released
  ];
}

stale_of_no_context : (time : ℕ) (p : PledgeId) (epoch : ℕ) → IsOfNoContext (Stale time p epoch)
stale_of_no_context time p epoch = record { count = refl; no_decision = λ d m is. is; no_block = λ d end. refl }

stale_no_lease : (time : ℕ) (p : PledgeId) (epoch : ℕ) → IsNoLease (Stale time p epoch)
stale_no_lease time p epoch = record {
  no_grant = λ made context number a until is. cc (is);
  no_release = λ q is. is;
  no_lease = λ h q lease. elim lease [
    | inl granted ↦ granted
    | inr released ↦ released
  ];
}

switch_of_no_context : (time epoch : ℕ) → IsOfNoContext (Switch time epoch)
switch_of_no_context time epoch = record { count = refl; no_decision = λ d m is. is; no_block = λ d end. refl }

switch_no_lease : (time epoch : ℕ) → IsNoLease (Switch time epoch)
switch_no_lease time epoch = record {
  no_grant = λ made context number a until is. cc (is);
  no_release = λ q is. is;
  no_lease = λ h q lease. elim lease [
    | inl granted ↦ granted
    | inr released ↦ released
  ];
}

pub roll_added : {old : RegState} (new : RegState) (h : List Entry) (time : ℕ) (set : KeySet) → CanFollow old (Roll time set) → StandsFor old h
    → new.time ≡ time → new.settings ≡ old.settings → new.phase ≡ rolled old.phase set → new.contexts ≡ old.contexts
    → new.leases ≡ old.leases → KnowPledges (h ++ Roll time set ∷ []) new.pledges → StandsFor new (h ++ Roll time set ∷ [])
roll_added {old} new h time set adds stands new_time settings keys contexts leases pledges =
    let e = Roll time set in
    let may = adds.each h stands in
    let knows = known_of old h stands in
    stands_next old new h e stands may (record {
      time = new_time;
      settings = settings;
      keys = keys;
      rows = subst (λ (x : Table). AreRows (h ++ e ∷ []) x.rows) (sym contexts) (rows_kept h e old.contexts.rows (roll_of_no_context time set) knows.rows);
      leases = subst (AreLeases (h ++ e ∷ [])) (sym leases) (leases_kept h e old.leases (IsLegal-stands old h stands) (roll_no_lease time set) knows.leases);
      passed = passed_stays old h e new.leases.passed stands may (ap (λ (x : Lent). x.passed) leases);
      pledges = pledges;
    })

pub given_added : {old : RegState} (new : RegState) (h : List Entry) (time c n epoch : ℕ) → CanFollow old (Given time c n epoch) → StandsFor old h
    → new.time ≡ time → new.settings ≡ old.settings → new.phase ≡ old.phase → new.contexts ≡ old.contexts
    → new.leases ≡ old.leases → KnowPledges (h ++ Given time c n epoch ∷ []) new.pledges → StandsFor new (h ++ Given time c n epoch ∷ [])
given_added {old} new h time c n epoch adds stands new_time settings keys contexts leases pledges =
    let e = Given time c n epoch in
    let may = adds.each h stands in
    let knows = known_of old h stands in
    stands_next old new h e stands may (record {
      time = new_time;
      settings = settings;
      keys = keys;
      rows = subst (λ (x : Table). AreRows (h ++ e ∷ []) x.rows) (sym contexts) (rows_kept h e old.contexts.rows (given_of_no_context time c n epoch) knows.rows);
      leases = subst (AreLeases (h ++ e ∷ [])) (sym leases) (leases_kept h e old.leases (IsLegal-stands old h stands) (given_no_lease time c n epoch) knows.leases);
      passed = passed_stays old h e new.leases.passed stands may (ap (λ (x : Lent). x.passed) leases);
      pledges = pledges;
    })

pub stale_added : {old : RegState} (new : RegState) (h : List Entry) (time : ℕ) (p : PledgeId) (epoch : ℕ) → CanFollow old (Stale time p epoch) → StandsFor old h
    → new.time ≡ time → new.settings ≡ old.settings → new.phase ≡ old.phase → new.contexts ≡ old.contexts
    → new.leases ≡ old.leases → KnowPledges (h ++ Stale time p epoch ∷ []) new.pledges → StandsFor new (h ++ Stale time p epoch ∷ [])
stale_added {old} new h time p epoch adds stands new_time settings keys contexts leases pledges =
    let e = Stale time p epoch in
    let may = adds.each h stands in
    let knows = known_of old h stands in
    stands_next old new h e stands may (record {
      time = new_time;
      settings = settings;
      keys = keys;
      rows = subst (λ (x : Table). AreRows (h ++ e ∷ []) x.rows) (sym contexts) (rows_kept h e old.contexts.rows (stale_of_no_context time p epoch) knows.rows);
      leases = subst (AreLeases (h ++ e ∷ [])) (sym leases) (leases_kept h e old.leases (IsLegal-stands old h stands) (stale_no_lease time p epoch) knows.leases);
      passed = passed_stays old h e new.leases.passed stands may (ap (λ (x : Lent). x.passed) leases);
      pledges = pledges;
    })

pub switch_added : {old : RegState} (new : RegState) (h : List Entry) (time epoch : ℕ) → CanFollow old (Switch time epoch) → StandsFor old h
    → new.time ≡ time → new.settings ≡ old.settings → new.phase ≡ switched old.phase → new.contexts ≡ old.contexts
    → new.leases ≡ old.leases → new.pledges ≡ old.pledges → StandsFor new (h ++ Switch time epoch ∷ [])
switch_added {old} new h time epoch adds stands new_time settings keys contexts leases pledges =
    let e = Switch time epoch in
    let may = adds.each h stands in
    let knows = known_of old h stands in
    let legal = IsLegal-stands old h stands in
    stands_next old new h e stands may (record {
      time = new_time;
      settings = settings;
      keys = keys;
      rows = subst (λ (x : Table). AreRows (h ++ e ∷ []) x.rows) (sym contexts) (rows_kept h e old.contexts.rows (switch_of_no_context time epoch) knows.rows);
      leases = subst (AreLeases (h ++ e ∷ [])) (sym leases) (leases_kept h e old.leases legal (switch_no_lease time epoch) knows.leases);
      passed = passed_stays old h e new.leases.passed stands may (ap (λ (x : Lent). x.passed) leases);
      pledges = subst (KnowPledges (h ++ e ∷ [])) (sym pledges) (KnowPledges-aside h e old.pledges legal may tt knows.pledges);
    })

-- ---- Release

release_of_no_context : (time : ℕ) (p : PledgeId) → IsOfNoContext (Release time p)
release_of_no_context time p = record { count = refl; no_decision = λ d m is. is; no_block = λ d end. refl }

pub release_added : {old : RegState} (new : RegState) (h : List Entry) (time : ℕ) (p : PledgeId) → CanFollow old (Release time p) → StandsFor old h
    → new.time ≡ time → new.settings ≡ old.settings → new.phase ≡ old.phase → new.contexts ≡ old.contexts
    → Releases p old.leases new.leases → KnowPledges (h ++ Release time p ∷ []) new.pledges → StandsFor new (h ++ Release time p ∷ [])
release_added {old} new h time p adds stands new_time settings keys contexts releases pledges =
    let e = Release time p in
    let may = adds.each h stands in
    let knows = known_of old h stands in
    stands_next old new h e stands may (record {
      time = new_time;
      settings = settings;
      keys = keys;
      rows = subst (λ (x : Table). AreRows (h ++ e ∷ []) x.rows) (sym contexts) (rows_kept h e old.contexts.rows (release_of_no_context time p) knows.rows);
      leases = leases_released h time p old.leases new.leases (IsLegal-stands old h stands) releases knows.leases;
      passed = passed_stays old h e new.leases.passed stands may releases.passed;
      pledges = pledges;
    })

-- what the pledges know before the entry
pub knows_before : {old : RegState} (h : List Entry) (e : Entry) → CanFollow old e → StandsFor old h → KnowsBefore old.pledges h e
knows_before {old} h e adds stands = record {
  legal = IsLegal-stands old h stands;
  know = (known_of old h stands).pledges;
  may_follow = adds.each h stands;
}

pub newest_epoch : (old : RegState) (h : List Entry) (epoch : ℕ) → StandsFor old h → epoch ≡ epoch_of old.phase → epoch ≡ epoch_of (phase h)
newest_epoch old h epoch stands is = is ∙ ap epoch_of (known_of old h stands).keys

-- what a Grant that may be added says of the state

pub grant_has_settings : {old : RegState} (time c n a until : ℕ) → CanFollow old (Grant time c n a until) → HasSettings old
grant_has_settings {old} time c n a until adds =
    let may = adds.each adds.history adds.stands in
    (adds.history, may.1, adds.stands, may.2.current)

pub grant_address : {old : RegState} (time c n a until : ℕ) → CanFollow old (Grant time c n a until) → (1 ≤ a) × (a ≤ 65533)
grant_address {old} time c n a until adds =
    let may = adds.each adds.history adds.stands in
    let legal = IsLegal-stands old adds.history adds.stands in
    due_in_range adds.history time a may.0 legal (granted_in_range adds.history legal) may.3

pub grant_timely : {old : RegState} (time c n a until : ℕ) → CanFollow old (Grant time c n a until) → old.leases.passed ≤ time
grant_timely {old} time c n a until adds =
    let may = adds.each adds.history adds.stands in
    let before = (known_of old adds.history adds.stands).passed in
    let timely = may.2.timely.not_before in
    omega (arith, before, timely)
