-- A request that a book answered, as it is reported.
use Rattle.std.proofs.Common.{◌≡◌, ℕ, ◌≤◌, List, [], ◌∷◌, ◌++◌, length, refl, sym, ◌∙◌, ap, subst, append-nil, arith, inl, inr, length-append}
use Rattle.std.specs.Prelude.{IsTrue}
use Rattle.std.specs.List.{AllZip}
use Rattle.std.proofs.lemmas.List.Elements.{All-nil, Contains-append_left}
use Rattle.edge_traits.specs.declared.names.PledgeId.{PledgeId}
use Rattle.edge_traits.specs.declared.disk.Disk.{Ghosts}
use Rattle.edge_traits.specs.Disk.{LeavesOnly}
use Rattle.edge_traits.specs.Faults.{Rose}
use Rattle.journal_text.specs.declared.refusal.Refusal.{Refusal}
use Rattle.journal_text.specs.Codes.{code_of}
use Rattle.journal_text.specs.declared.entry.Entry.{Entry}
use Rattle.journal_text.specs.declared.entry.Entry.TheVariants as entry
use Rattle.join_history.specs.declared.due.Due.{Due}
use Rattle.join_history.specs.declared.due.Due.TheVariants.{Add, Again, Quiet}
use Rattle.join_history.specs.declared.due.Want.TheVariants.{Join}
use Rattle.join_history.specs.Times.{moment}
use Rattle.join_history.specs.Leases.{current_settings}
use Rattle.join_history.specs.Decisions.{IsDecision, IsLastDecision}
use Rattle.join_history.specs.Due.{IsDue, IsDueEntry}
use Rattle.join_history.proofs.LastLemmas.{IsLast-unique}
use Rattle.join_history.proofs.SettingsLemmas.{current_settings-push}
use Rattle.registrar_state.specs.declared.last.Last.{Last}
use Rattle.registrar_state.specs.declared.last.Last.TheVariants as last
use Rattle.registrar_state.specs.Last.{IsLastAnswer}
use Rattle.registrar_state.specs.State.{StandsFor}
use Rattle.registrar_state.proofs.StateLemmas.{IsLegal-stands}
use Rattle.registrar_book.specs.declared.answers.Decided.{Decided}
use Rattle.registrar_book.specs.declared.answers.Decided.TheVariants as decided
use Rattle.registrar_book.specs.declared.book.Book.{Book}
use Rattle.registrar_book.specs.Journals.{HasPrefix}
use Rattle.registrar_book.specs.Books.{log_of, state_of, durable_of, book_disk, IsKept, IsDecided, IsDurableUnlessUnsure, LeavesDurable, HasDecidedCause, Adds}
use Rattle.registrar_book.proofs.Prefixes.{held_prefix}
use Rattle.registrar_book.proofs.Placing.{zip_map}
use Rattle.tool_text.specs.declared.outcome.Outcome.{Outcome}
use Rattle.tool_text.specs.declared.outcome.Outcome.TheVariants as outcome
use Rattle.registrar_tool.specs.Told.{Standing, IsOutcome, IsToldRequest, HasDurability, IsSafe, IsAnswered, HasPlace, added_entries, granted_of, again_of}
use Rattle.registrar_tool.specs.Opened.{HasIdContext, IsReady, standing_of}

-- ---- outcomes

again_sure : (l : Last) (faults : ℕ) → outcome.Unsure faults ≡ again_of l → ⊥
again_sure (last.Grant address until) faults is = cc
again_sure (last.Refuse code) faults is = cc

again_placed : (l : Last) (n : ℕ) → outcome.Full n ≡ again_of l → ⊥
again_placed (last.Grant address until) n is = cc
again_placed (last.Refuse code) n is = cc

sure : (g : List Entry) (c : ℕ) (due : Due) (faults : ℕ) → IsOutcome g c due (outcome.Unsure faults) → ⊥
sure g c (Add (entry.Grant time context number address until)) faults is = cc
sure g c (Add (entry.Refuse time context number why)) faults is = cc
sure g c (Add _) faults is = is
sure g c Again faults is = again_sure is.0 faults is.2
sure g c (Quiet why) faults is = cc

not_full : (g : List Entry) (c : ℕ) (due : Due) (n : ℕ) → IsOutcome g c due (outcome.Full n) → ⊥
not_full g c (Add (entry.Grant time context number address until)) n is = cc
not_full g c (Add (entry.Refuse time context number why)) n is = cc
not_full g c (Add _) n is = is
not_full g c Again n is = again_placed is.0 n is.2
not_full g c (Quiet why) n is = cc

-- what is due was reported, and the history is durable
pub due_told : {D : Type 0} (ghosts : Ghosts D) (old new : Standing D) (time c n : ℕ) (due : Due) (o : Outcome) (more : List Entry) → IsDue old.history time c n Join due → HasPlace old.history due
    → IsOutcome old.history c due o → more ≡ added_entries due → new.durable ≡ length new.history → IsToldRequest old.history time c n o more × HasDurability ghosts old o more new
due_told ghosts old new time c n due (outcome.Grant address until) more is place told adds all = ((due, is, place, told, adds), all)
due_told ghosts old new time c n due (outcome.Refuse code) more is place told adds all = ((due, is, place, told, adds), all)
due_told ghosts old new time c n due (outcome.AgainGrant address until) more is place told adds all = ((due, is, place, told, adds), all)
due_told ghosts old new time c n due (outcome.AgainRefuse code) more is place told adds all = ((due, is, place, told, adds), all)
due_told ghosts old new time c n due (outcome.Quiet why) more is place told adds all = ((due, is, place, told, adds), all)
due_told ghosts old new time c n due (outcome.Unsure faults) more is place told adds all = absurd (sure old.history c due faults told)
due_told ghosts old new time c n due (outcome.Full entries) more is place told adds all = absurd (not_full old.history c due entries told)

-- ---- the last answer is the one that was just added

same_grant : (t1 c1 n1 a1 u1 t2 c2 n2 a2 u2 : ℕ) → entry.Grant t1 c1 n1 a1 u1 ≡ entry.Grant t2 c2 n2 a2 u2 → outcome.Grant a2 u2 ≡ outcome.Grant a1 u1
same_grant t1 c1 n1 a1 u1 t2 c2 n2 a2 u2 is = cc

same_refusal : (t1 c1 n1 t2 c2 n2 : ℕ) (w1 w2 : Refusal) → entry.Refuse t1 c1 n1 w1 ≡ entry.Refuse t2 c2 n2 w2 → w2 ≡ w1
same_refusal t1 c1 n1 t2 c2 n2 w1 w2 is = cc

other_kind : (t1 c1 n1 a1 u1 t2 c2 n2 : ℕ) (w2 : Refusal) → entry.Grant t1 c1 n1 a1 u1 ≡ entry.Refuse t2 c2 n2 w2 → ⊥
other_kind t1 c1 n1 a1 u1 t2 c2 n2 w2 is = cc

decides : ℕ → Entry → Type 0
decides c e = (n : ℕ) × IsDecision c n e

just_last : (g : List Entry) (c : ℕ) (e : Entry) → ((n : ℕ) × IsDecision c n e) → IsLastDecision (g ++ e ∷ []) c e
just_last g c e is = record { before = g; after = []; place = refl; holds = is; none_after = All-nil (λ y. ((n : ℕ) × IsDecision c n y) → ⊥) }

pub granted_told : (g : List Entry) (t c n : ℕ) (e : Entry) (l : Last) → IsDueEntry g t c n Join e → IsLastAnswer (g ++ e ∷ []) c l → IsOutcome g c (Add e) (granted_of l)
granted_told g t c n (entry.Grant time context number address until) (last.Grant a u) due is =
    let e = entry.Grant time context number address until in
    let same = IsLast-unique (λ x. (n : ℕ) × IsDecision c n x) (g ++ e ∷ []) e (entry.Grant is.0 c is.1 a u) (just_last g c e (number, (due.2, refl))) is.2 in
    same_grant time context number address until is.0 c is.1 a u same
granted_told g t c n (entry.Grant time context number address until) (last.Refuse code) due is =
    let e = entry.Grant time context number address until in
    absurd (other_kind time context number address until is.0 c is.1 is.2 (IsLast-unique (λ x. (n : ℕ) × IsDecision c n x) (g ++ e ∷ []) e (entry.Refuse is.0 c is.1 is.2) (just_last g c e (number, (due.2, refl))) is.3))
granted_told g t c n (entry.Refuse time context number why) (last.Grant a u) due is =
    let e = entry.Refuse time context number why in
    absurd (other_kind is.0 c is.1 a u time context number why (sym (IsLast-unique (λ x. (n : ℕ) × IsDecision c n x) (g ++ e ∷ []) e (entry.Grant is.0 c is.1 a u) (just_last g c e (number, (due.1, refl))) is.2)))
granted_told g t c n (entry.Refuse time context number why) (last.Refuse code) due is =
    let e = entry.Refuse time context number why in
    let same = IsLast-unique (λ x. (n : ℕ) × IsDecision c n x) (g ++ e ∷ []) e (entry.Refuse is.0 c is.1 is.2) (just_last g c e (number, (due.1, refl))) is.3 in
    ap outcome.Refuse (is.4 ∙ ap code_of (same_refusal time context number is.0 c is.1 why is.2 same))
granted_told g t c n _ l due is = absurd due

-- ---- the next request

-- an entry that a request is due leaves the settings
settings_stay : (g : List Entry) (t c n : ℕ) (e : Entry) → IsDueEntry g t c n Join e → current_settings (g ++ e ∷ []) ≡ current_settings g
settings_stay g t c n (entry.Grant time context number address until) due = current_settings-push g (entry.Grant time context number address until)
settings_stay g t c n (entry.Refuse time context number why) due = current_settings-push g (entry.Refuse time context number why)
settings_stay g t c n _ due = absurd due

none_added : (g added : List Entry) → added ≡ [] → current_settings (g ++ added) ≡ current_settings g
none_added g added is = ap (λ (l : List Entry). current_settings (g ++ l)) is ∙ ap current_settings (append-nil g)

one_added : (g added : List Entry) (t c n : ℕ) (e : Entry) → added ≡ e ∷ [] → IsDueEntry g t c n Join e → current_settings (g ++ added) ≡ current_settings g
one_added g added t c n e is due = ap (λ (l : List Entry). current_settings (g ++ l)) is ∙ settings_stay g t c n e due

pub decided_settings : (g : List Entry) (now c n : ℕ) (answer : Decided) (added : List Entry) (length : ℕ) → IsDecided g now c n Join answer added length → current_settings (g ++ added) ≡ current_settings g
decided_settings g now c n (decided.Made at) added length is = one_added g added (moment g now) c n is.0 is.2 is.1.1
decided_settings g now c n (decided.Again at) added length is = none_added g added is.1
decided_settings g now c n (decided.Quiet why at) added length is = none_added g added is.1
decided_settings g now c n (decided.Full at) added length is = none_added g added is.2
decided_settings g now c n (decided.Unsure at faults) added length is = elim is.0 [
  | inl none ↦ none_added g added none
  | inr one ↦ one_added g added (moment g now) c n one.0 one.2 one.1.1
]

module _ {D : Type 0} {ghosts : Ghosts D} (old new : Book D ghosts) (time c n : ℕ) (answer : Decided) (ids : List PledgeId) (contexts : List ℕ) (ready : IsReady old ids contexts)
    (adds : Adds old new (log_of old) time c n Join answer) (kept : IsTrue (ghosts.tells (book_disk old)) → IsKept ghosts.may_leave new)
    (any : IsTrue (ghosts.tells (book_disk old)) → LeavesOnly ghosts.moment ghosts.left_since (book_disk old) (book_disk new) (HasPrefix (durable_of old) (log_of new)))
    (tells : ghosts.tells (book_disk new) ≡ ghosts.tells (book_disk old)) (counted : ghosts.fault_count (book_disk old) ≤ ghosts.fault_count (book_disk new)) where
  stands_now : StandsFor (state_of new) (log_of new)
  stands_now = subst (StandsFor (state_of new)) (sym adds.log) adds.stands

  pub safe_now : IsSafe ghosts (standing_of new)
  unfolding IsKept
  safe_now told image left = held_prefix ghosts.may_leave new.press.journal (log_of new) (durable_of new) (kept (subst IsTrue tells told)) image left

  -- what was reported of it
  pub answered : (o : Outcome) → IsToldRequest (log_of old) time c n o adds.added → HasDurability ghosts (standing_of old) o adds.added (standing_of new) → IsAnswered ghosts (standing_of old) time c n o (standing_of new)
  answered o told settled = record {
    more = adds.added;
    told = told;
    history = adds.log;
    legal = IsLegal-stands (state_of new) (log_of new) stands_now;
    settled = settled;
    counted = counted;
    safe = safe_now;
    any_moment = any;
    tells = tells;
  }

  pub ready_next : IsReady new ids contexts
  ready_next = record {
    stands = stands_now;
    enrolled = subst (λ (h : List Entry). AllZip (HasIdContext h) ids contexts) (sym adds.log)
        (zip_map (HasIdContext (log_of old)) (HasIdContext (log_of old ++ adds.added)) ids contexts (λ id context has. Contains-append_left (log_of old) adds.added _ has) ready.enrolled);
    settings = ready.settings;
    current = ap current_settings adds.log ∙ decided_settings (log_of old) time c n answer adds.added (length (log_of new)) adds.decided ∙ ready.current;
    kept = λ told. kept (subst IsTrue tells told);
  }

-- ---- each answer of a book

module _ {D : Type 0} {ghosts : Ghosts D} (old new : Book D ghosts) (time c n : ℕ) where
  pub made_told : (at : ℕ) (l : Last) (adds : Adds old new (log_of old) time c n Join (decided.Made at)) → IsDurableUnlessUnsure (decided.Made at) (durable_of new) (length (log_of new))
      → IsLastAnswer (log_of new) c l → IsToldRequest (log_of old) time c n (granted_of l) adds.added × HasDurability ghosts (standing_of old) (granted_of l) adds.added (standing_of new)
  made_told at l adds sure is =
      let e = adds.decided.0 in
      let log : log_of new ≡ log_of old ++ e ∷ [] = adds.log ∙ ap (λ (x : List Entry). log_of old ++ x) adds.decided.2 in
      let told = granted_told (log_of old) (moment (log_of old) time) c n e l adds.decided.1.1 (subst (λ (h : List Entry). IsLastAnswer h c l) log is) in
      due_told ghosts (standing_of old) (standing_of new) time c n (Add e) (granted_of l) adds.added adds.decided.1 (omega (arith, adds.decided.4, ap length log, length-append (log_of old) (e ∷ []))) told adds.decided.2 sure

  pub again_told : (at : ℕ) (l : Last) (adds : Adds old new (log_of old) time c n Join (decided.Again at)) → IsDurableUnlessUnsure (decided.Again at) (durable_of new) (length (log_of new))
      → IsLastAnswer (log_of new) c l → IsToldRequest (log_of old) time c n (again_of l) adds.added × HasDurability ghosts (standing_of old) (again_of l) adds.added (standing_of new)
  again_told at l adds sure is =
      let log : log_of new ≡ log_of old = adds.log ∙ ap (λ (x : List Entry). log_of old ++ x) adds.decided.1 ∙ append-nil (log_of old) in
      due_told ghosts (standing_of old) (standing_of new) time c n Again (again_of l) adds.added adds.decided.0 tt (l, subst (λ (h : List Entry). IsLastAnswer h c l) log is, refl) adds.decided.1 sure

  pub quiet_told : (why : _) (at : ℕ) (adds : Adds old new (log_of old) time c n Join (decided.Quiet why at)) → IsDurableUnlessUnsure (decided.Quiet why at) (durable_of new) (length (log_of new))
      → IsToldRequest (log_of old) time c n (outcome.Quiet why) adds.added × HasDurability ghosts (standing_of old) (outcome.Quiet why) adds.added (standing_of new)
  quiet_told why at adds sure = due_told ghosts (standing_of old) (standing_of new) time c n (Quiet why) (outcome.Quiet why) adds.added adds.decided.0 tt refl adds.decided.1 sure

  pub full_told : (at : ℕ) (adds : Adds old new (log_of old) time c n Join (decided.Full at)) → IsToldRequest (log_of old) time c n (outcome.Full at) adds.added
  full_told at adds =
      let log : log_of new ≡ log_of old = adds.log ∙ ap (λ (x : List Entry). log_of old ++ x) adds.decided.2 ∙ append-nil (log_of old) in
      (adds.decided.0, adds.decided.1, sym (ap length log) ∙ adds.decided.4, adds.decided.3 ∙ adds.decided.4, adds.decided.2)

  pub unsure_told : (at faults : ℕ) (adds : Adds old new (log_of old) time c n Join (decided.Unsure at faults)) → IsToldRequest (log_of old) time c n (outcome.Unsure faults) adds.added
  unsure_told at faults adds = elim adds.decided.0 [
    | inl none ↦ inl none
    | inr one ↦
        let log : log_of new ≡ log_of old ++ one.0 ∷ [] = adds.log ∙ ap (λ (x : List Entry). log_of old ++ x) one.2 in
        inr (one.0, one.1, omega (arith, one.3, ap length log, length-append (log_of old) (one.0 ∷ [])), one.2)
  ]

  unsure_rose : (more : List Entry) (at faults : ℕ) → HasDecidedCause (ghosts.fault_count (book_disk old)) (ghosts.fault_count (book_disk new)) (decided.Unsure at faults)
      → LeavesDurable (decided.Unsure at faults) more (durable_of old) (length (log_of old)) (durable_of new) → HasDurability ghosts (standing_of old) (outcome.Unsure faults) more (standing_of new)
  unsure_rose [] at faults cause leaves = (subst (Rose (ghosts.fault_count (book_disk old))) (sym cause.1) cause.0, cause.1, leaves.0, leaves.1)
  unsure_rose (e ∷ more) at faults cause leaves = (subst (Rose (ghosts.fault_count (book_disk old))) (sym cause.1) cause.0, cause.1, leaves)

  pub unsure_settled : (at faults : ℕ) (adds : Adds old new (log_of old) time c n Join (decided.Unsure at faults))
      → HasDecidedCause (ghosts.fault_count (book_disk old)) (ghosts.fault_count (book_disk new)) (decided.Unsure at faults) → HasDurability ghosts (standing_of old) (outcome.Unsure faults) adds.added (standing_of new)
  unsure_settled at faults adds cause = unsure_rose adds.added at faults cause adds.durable

-- ---- there is a last decision

entry_decides : (g : List Entry) (t c n : ℕ) (e : Entry) → IsDueEntry g t c n Join e → (n : ℕ) × IsDecision c n e
entry_decides g t c n (entry.Grant time context number address until) due = (number, (due.2, refl))
entry_decides g t c n (entry.Refuse time context number why) due = (number, (due.1, refl))
entry_decides g t c n _ due = absurd due

module _ {D : Type 0} {ghosts : Ghosts D} (old new : Book D ghosts) (time c n : ℕ) where
  pub made_last : (at : ℕ) (adds : Adds old new (log_of old) time c n Join (decided.Made at)) → (e : Entry) × IsLastDecision (log_of new) c e
  made_last at adds =
      let e = adds.decided.0 in
      let log : log_of new ≡ log_of old ++ e ∷ [] = adds.log ∙ ap (λ (x : List Entry). log_of old ++ x) adds.decided.2 in
      (e, subst (λ (h : List Entry). IsLastDecision h c e) (sym log) (just_last (log_of old) c e (entry_decides (log_of old) (moment (log_of old) time) c n e adds.decided.1.1)))

  pub again_last : (at : ℕ) (adds : Adds old new (log_of old) time c n Join (decided.Again at)) → (e : Entry) × IsLastDecision (log_of new) c e
  again_last at adds =
      let log : log_of new ≡ log_of old = adds.log ∙ ap (λ (x : List Entry). log_of old ++ x) adds.decided.1 ∙ append-nil (log_of old) in
      let repeat = adds.decided.0.1 in
      (repeat.0, subst (λ (h : List Entry). IsLastDecision h c repeat.0) (sym log) repeat.1)
