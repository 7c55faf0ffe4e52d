-- What a state knows after one more entry.
use Rattle.std.proofs.Common.{◌≡◌, inl, inr, ℕ, ◌<◌, ◌≤◌, List, [], ◌∷◌, ◌++◌, Option, Some, None, length, get_or, unwrap_or, Contains, refl, sym, ap, ◌∙◌, subst, arith}
use Rattle.std.proofs.lemmas.List.Sums.{fold_push}
use Rattle.edge_traits.specs.declared.names.PledgeId.{PledgeId}
use Rattle.address_leases.specs.Lent.{Lent}
use Rattle.journal_text.specs.Codes.{code_of}
use Rattle.journal_text.specs.declared.settings.Settings.{Settings}
use Rattle.journal_text.specs.declared.refusal.Refusal.{Refusal}
use Rattle.journal_text.specs.declared.entry.Entry.{Entry}
use Rattle.journal_text.specs.declared.entry.Entry.TheVariants.{Settings as SettingsEntry, Enroll, Grant, Refuse, Block}
use Rattle.join_history.specs.Times.{time_of, last_time}
use Rattle.join_history.specs.Contexts.{pledge_of}
use Rattle.join_history.specs.Phases.{phase_after}
use Rattle.join_history.specs.Legal.{MayFollow}
use Rattle.join_history.specs.Answers.{refusal_answer, answer_after}
use Rattle.join_history.specs.Summary.{timed_settings_after}
use Rattle.join_history.proofs.LegalLemmas.{IsLegal-push}
use Rattle.join_history.proofs.TimeLemmas.{last_time-push, last_time-rises}
use Rattle.join_history.proofs.KeyLemmas.{phase-push}
use Rattle.join_history.proofs.KnownLemmas.{enrolled_below}
use Rattle.registrar_state.specs.declared.contexts.LastRequest.{LastRequest}
use Rattle.registrar_state.specs.declared.contexts.Row.{Row}
use Rattle.registrar_state.specs.declared.last.Last.TheVariants as last
use Rattle.registrar_state.specs.declared.state.RegState.{RegState}
use Rattle.registrar_state.specs.Contexts.{Table, IsNewCheck, AreRows, SetsEnd, Decides}
use Rattle.registrar_state.specs.Leases.{AreLeases}
use Rattle.registrar_state.specs.Pledges.{KnowPledges}
use Rattle.registrar_state.specs.State.{Knows, StandsFor, CanFollow}
use Rattle.registrar_state.proofs.ContextSteps.{IsOfNoContext, rows_kept, rows_enrolled, ChangesRow, rows_set, IsDecided, rows_decided}
use Rattle.registrar_state.proofs.LeaseSteps.{IsNoLease, leases_kept}
use Rattle.registrar_state.proofs.PledgeSteps.{KnowPledges-aside}
use Rattle.registrar_state.proofs.StateLemmas.{IsLegal-stands, known_of}
use Rattle.registrar_state.proofs.DueLemmas.{fresh_row}
use Rattle.registrar_state.specs.Last.{IsTold}
use Rattle.replay_window.specs.Parts.{StandsFor as WindowStandsFor}
use Rattle.replay_window.specs.Numbers.{IsJudged}
use Rattle.replay_window.specs.declared.judged.Judged.TheVariants.{Fresh}
use Rattle.join_history.specs.Decisions.{IsFresh}
use Rattle.join_history.specs.Leases.{current_settings}

-- the parts of a state after an entry that is known part by part
pub record KnowsNext (new : RegState) (h : List Entry) (e : Entry) (old : RegState) : Type 0 where
  pub time : new.time ≡ unwrap_or (time_of e) old.time
  pub settings : new.settings ≡ timed_settings_after old.settings e
  pub keys : new.phase ≡ phase_after old.phase e
  pub rows : AreRows (h ++ e ∷ []) new.contexts.rows
  pub leases : AreLeases (h ++ e ∷ []) new.leases
  pub passed : new.leases.passed ≤ last_time (h ++ e ∷ [])
  pub pledges : KnowPledges (h ++ e ∷ []) new.pledges

pub stands_next : (old new : RegState) (h : List Entry) (e : Entry) → StandsFor old h → MayFollow h e → KnowsNext new h e old
    → StandsFor new (h ++ e ∷ [])
unfolding StandsFor
stands_next old new h e stands may next =
    let knows : Knows new (h ++ e ∷ []) = record {
      time = next.time ∙ ap (λ (x : ℕ). unwrap_or (time_of e) x) stands.1.time ∙ sym (last_time-push h e);
      settings = next.settings ∙ ap (λ o. timed_settings_after o e) stands.1.settings ∙ sym (fold_push timed_settings_after None h e);
      keys = next.keys ∙ ap (λ keys. phase_after keys e) stands.1.keys ∙ sym (phase-push h e);
      rows = next.rows;
      leases = next.leases;
      passed = next.passed;
      pledges = next.pledges;
    } in
    (IsLegal-push h e stands.0 may, knows)

-- the last time only rises
pub passed_stays : (old : RegState) (h : List Entry) (e : Entry) (passed : ℕ) → StandsFor old h → MayFollow h e
    → passed ≡ old.leases.passed → passed ≤ last_time (h ++ e ∷ [])
passed_stays old h e passed stands may same =
    let before = (known_of old h stands).passed in
    let rises = last_time-rises h e may in
    omega (arith, before, rises, same)

-- ---- Settings

settings_of_no_context : (time : ℕ) (s : Settings) → IsOfNoContext (SettingsEntry time s)
settings_of_no_context time s = record { count = refl; no_decision = λ c n is. is; no_block = λ c end. refl }

settings_no_lease : (time : ℕ) (s : Settings) → IsNoLease (SettingsEntry time s)
settings_no_lease time s = record {
  no_grant = λ made context number a until is. cc (is);
  no_release = λ p is. is;
  no_lease = λ h p lease. elim lease [
    | inl granted ↦ granted
    | inr released ↦ released
  ];
}

-- the other parts stay
pub record LeavesParts (old new : RegState) : Type 0 where
  pub keys : new.phase ≡ old.phase
  pub contexts : new.contexts ≡ old.contexts
  pub leases : new.leases ≡ old.leases
  pub pledges : new.pledges ≡ old.pledges

pub settings_added : {old new : RegState} (h : List Entry) (time : ℕ) (s : Settings) → CanFollow old (SettingsEntry time s)
    → StandsFor old h → new.time ≡ time → new.settings ≡ Some (time, s) → LeavesParts old new
    → StandsFor new (h ++ SettingsEntry time s ∷ [])
settings_added {old} {new} h time s adds stands new_time new_settings leaves =
    let e = SettingsEntry time s in
    let may = adds.each h stands in
    let knows = known_of old h stands in
    let legal = IsLegal-stands old h stands in
    stands_next old new h e stands may (record {
      time = new_time;
      settings = new_settings;
      keys = leaves.keys;
      rows = subst (λ (x : Table). AreRows (h ++ e ∷ []) x.rows) (sym leaves.contexts) (rows_kept h e old.contexts.rows (settings_of_no_context time s) knows.rows);
      leases = subst (AreLeases (h ++ e ∷ [])) (sym leaves.leases) (leases_kept h e old.leases legal (settings_no_lease time s) knows.leases);
      passed = passed_stays old h e new.leases.passed stands may (ap (λ (x : Lent). x.passed) leaves.leases);
      pledges = subst (KnowPledges (h ++ e ∷ [])) (sym leaves.pledges) (KnowPledges-aside h e old.pledges legal may tt knows.pledges);
    })

-- ---- Enroll

enroll_no_lease : (c : ℕ) (p : PledgeId) (check : List ℕ) → IsNoLease (Enroll c p check)
enroll_no_lease c p check = record {
  no_grant = λ made context number a until is. cc (is);
  no_release = λ q is. is;
  no_lease = λ h q lease. elim lease [
    | inl granted ↦ granted
    | inr released ↦ released
  ];
}

pub context_added : {old : RegState} (new : RegState) (h : List Entry) (c : ℕ) (p : PledgeId) (check : List ℕ) → CanFollow old (Enroll c p check)
    → StandsFor old h → new.time ≡ old.time → new.settings ≡ old.settings → new.phase ≡ old.phase
    → new.contexts.rows ≡ old.contexts.rows ++ (record { id = p; check = check; end = 0; window = None; last = None }) ∷ []
    → new.leases ≡ old.leases → new.pledges ≡ old.pledges → StandsFor new (h ++ Enroll c p check ∷ [])
context_added {old} new h c p check adds stands time settings keys rows leases pledges =
    let e = Enroll c p check in
    let may = adds.each h stands in
    let knows = known_of old h stands in
    let legal = IsLegal-stands old h stands in
    stands_next old new h e stands may (record {
      time = time;
      settings = settings;
      keys = keys;
      rows = subst (AreRows (h ++ e ∷ [])) (sym rows) (rows_enrolled h c p check old.contexts.rows legal may knows.rows);
      leases = subst (AreLeases (h ++ e ∷ [])) (sym leases) (leases_kept h e old.leases legal (enroll_no_lease c p check) knows.leases);
      passed = passed_stays old h e new.leases.passed stands may (ap (λ (x : Lent). x.passed) leases);
      pledges = subst (KnowPledges (h ++ e ∷ [])) (sym pledges) (KnowPledges-aside h e old.pledges legal may tt knows.pledges);
    })

-- a context that a Block names has a row
pub block_row : {old : RegState} (c to : ℕ) → CanFollow old (Block c to) → c < length old.contexts.rows
block_row {old} c to adds =
    let h = adds.history in
    let may = adds.each h adds.stands in
    let below = enrolled_below h c may.0 (IsLegal-stands old h adds.stands) may.1 in
    let count = (known_of old h adds.stands).rows.count in
    omega (arith, below, count)

-- ---- Block

block_no_lease : (c to : ℕ) → IsNoLease (Block c to)
block_no_lease c to = record {
  no_grant = λ made context number a until is. cc (is);
  no_release = λ q is. is;
  no_lease = λ h q lease. elim lease [
    | inl granted ↦ granted
    | inr released ↦ released
  ];
}

pub block_added : {old : RegState} (new : RegState) (h : List Entry) (c to : ℕ) → CanFollow old (Block c to)
    → StandsFor old h → new.time ≡ old.time → new.settings ≡ old.settings → new.phase ≡ old.phase
    → ChangesRow c old.contexts.rows new.contexts.rows
    → ((d : Row) → SetsEnd to (get_or old.contexts.rows c d) (get_or new.contexts.rows c d))
    → new.leases ≡ old.leases → new.pledges ≡ old.pledges → StandsFor new (h ++ Block c to ∷ [])
block_added {old} new h c to adds stands time settings keys changes sets leases pledges =
    let e = Block c to in
    let may = adds.each h stands in
    let knows = known_of old h stands in
    let legal = IsLegal-stands old h stands in
    stands_next old new h e stands may (record {
      time = time;
      settings = settings;
      keys = keys;
      rows = rows_set h c to old.contexts.rows new.contexts.rows changes sets knows.rows;
      leases = subst (AreLeases (h ++ e ∷ [])) (sym leases) (leases_kept h e old.leases legal (block_no_lease c to) knows.leases);
      passed = passed_stays old h e new.leases.passed stands may (ap (λ (x : Lent). x.passed) leases);
      pledges = subst (KnowPledges (h ++ e ∷ [])) (sym pledges) (KnowPledges-aside h e old.pledges legal may tt knows.pledges);
    })

-- ---- Refuse

refuse_no_lease : (time c n : ℕ) (why : Refusal) → IsNoLease (Refuse time c n why)
refuse_no_lease time c n why = record {
  no_grant = λ made context number a until is. cc (is);
  no_release = λ q is. is;
  no_lease = λ h q lease. elim lease [
    | inl granted ↦ granted
    | inr released ↦ released
  ];
}

refusal_after : (h : List Entry) (o : Option Settings) (time c n : ℕ) (why : Refusal)
    → refusal_answer why ≡ answer_after h o (Refuse time c n why)
refusal_after h None time c n why = refl
refusal_after h (Some s) time c n why = refl

refuse_decided : (h : List Entry) (time c n : ℕ) (why : Refusal) (l : LastRequest) → l.number ≡ n → l.time ≡ time
    → l.told ≡ last.Refuse (code_of why) → l.answer.items ≡ refusal_answer why → IsDecided h (Refuse time c n why) c l
refuse_decided h time c n why l number made told answer = record {
  decides = (refl, sym number);
  time = ap (λ (x : ℕ). Some x) (sym made);
  told = subst (IsTold (Refuse time c n why)) (sym told) refl;
  answer = answer ∙ refusal_after h (current_settings h) time c n why;
  count = refl;
  no_block = λ d end. refl;
  others = λ d m is. sym is.0;
}

-- a context whose request may be decided has a row, and the number is fresh
pub record IsDecidable (old : RegState) (c n : ℕ) : Type 0 where
  pub row : c < length old.contexts.rows
  pub fresh : (d : Row) → (numbers : List ℕ) × WindowStandsFor numbers (get_or old.contexts.rows c d).window × IsJudged numbers n Fresh

pub decidable : {old : RegState} (h : List Entry) (c n : ℕ) (p : PledgeId) → StandsFor old h → pledge_of h c ≡ Some p
    → IsFresh h c n → IsDecidable old c n
decidable {old} h c n p stands enrolled fresh =
    let below = enrolled_below h c p (IsLegal-stands old h stands) enrolled in
    let rows = (known_of old h stands).rows in
    let count = rows.count in
    let small : c < length old.contexts.rows = omega (arith, below, count) in record {
      row = small;
      fresh = λ d. fresh_row h c n (get_or old.contexts.rows c d) (rows.each c d small) fresh;
    }

pub refuse_decidable : {old : RegState} (time c n : ℕ) (why : Refusal) → CanFollow old (Refuse time c n why) → IsDecidable old c n
refuse_decidable {old} time c n why adds =
    let may = adds.each adds.history adds.stands in
    decidable adds.history c n may.0 adds.stands may.2.enrolled may.2.fresh

pub grant_decidable : {old : RegState} (time c n a until : ℕ) → CanFollow old (Grant time c n a until) → IsDecidable old c n
grant_decidable {old} time c n a until adds =
    let may = adds.each adds.history adds.stands in
    decidable adds.history c n may.0 adds.stands may.2.enrolled may.2.fresh

pub refusal_added : {old : RegState} (new : RegState) (h : List Entry) (time c n : ℕ) (why : Refusal) (l : LastRequest) → CanFollow old (Refuse time c n why)
    → StandsFor old h → new.time ≡ time → new.settings ≡ old.settings → new.phase ≡ old.phase
    → ChangesRow c old.contexts.rows new.contexts.rows
    → ((d : Row) → Decides l.number l (get_or old.contexts.rows c d) (get_or new.contexts.rows c d))
    → l.number ≡ n → l.time ≡ time → l.told ≡ last.Refuse (code_of why) → l.answer.items ≡ refusal_answer why
    → new.leases ≡ old.leases → new.pledges ≡ old.pledges → StandsFor new (h ++ Refuse time c n why ∷ [])
refusal_added {old} new h time c n why l adds stands new_time settings keys changes decides number made told answer leases pledges =
    let e = Refuse time c n why in
    let may = adds.each h stands in
    let knows = known_of old h stands in
    let legal = IsLegal-stands old h stands in
    stands_next old new h e stands may (record {
      time = new_time;
      settings = settings;
      keys = keys;
      rows = rows_decided h e c l old.contexts.rows new.contexts.rows (refuse_decided h time c n why l number made told answer) changes decides knows.rows;
      leases = subst (AreLeases (h ++ e ∷ [])) (sym leases) (leases_kept h e old.leases legal (refuse_no_lease time c n why) knows.leases);
      passed = passed_stays old h e new.leases.passed stands may (ap (λ (x : Lent). x.passed) leases);
      pledges = subst (KnowPledges (h ++ e ∷ [])) (sym pledges) (KnowPledges-aside h e old.pledges legal may tt knows.pledges);
    })

-- a new context's check is new, and there are few contexts
pub record IsAddable (old : RegState) (check : List ℕ) : Type 0 where
  pub new : IsNewCheck old.contexts.rows check
  pub few : length old.contexts.rows < 32768

pub context_addable : {old : RegState} (c : ℕ) (p : PledgeId) (check : List ℕ) → CanFollow old (Enroll c p check) → IsAddable old check
context_addable {old} c p check adds =
    let may = adds.each adds.history adds.stands in
    let rows = (known_of old adds.history adds.stands).rows in
    let count = rows.count in record {
      new = λ d row small same.
          let at = rows.each d row small in
          may.2 (d, (get_or old.contexts.rows d row).id, subst (λ (k : List ℕ). Contains adds.history (Enroll d (get_or old.contexts.rows d row).id k)) same at.enrolled);
      few = let next = may.0 in let below = may.1 in omega (arith, next, below, count);
    }
