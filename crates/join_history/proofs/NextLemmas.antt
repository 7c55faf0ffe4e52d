-- Two legal histories with one summary have one summary after one more entry: contexts, requests and Grants.
use Rattle.std.proofs.Common.{◌≡◌, ◌⊎◌, inl, inr, ℕ, ◌+◌, ◌-◌, ◌<◌, ◌≤◌, List, [], ◌∷◌, ◌++◌, Option, Some, None, unwrap_or, Contains, All, refl, sym, ap, ◌∙◌, subst, arith}
use Rattle.std.proofs.lemmas.List.Sums.{fold_push}
use Rattle.std.proofs.lemmas.List.Elements.{All-push, All-nil, All-contains, Contains-push_cases, Contains-append_left}
use Rattle.edge_traits.specs.declared.names.PledgeId.{PledgeId}
use Rattle.journal_text.specs.declared.settings.Settings.{Settings}
use Rattle.journal_text.specs.declared.refusal.Refusal.{Refusal}
use Rattle.journal_text.specs.declared.summary.SumRequest.{SumRequest}
use Rattle.journal_text.specs.declared.summary.SumContext.{SumContext}
use Rattle.journal_text.specs.declared.summary.SumGrant.{SumGrant}
use Rattle.journal_text.specs.declared.entry.Entry.{Entry}
use Rattle.journal_text.specs.declared.entry.Entry.TheVariants.{Enroll, Grant, Refuse}
use Rattle.join_history.specs.Times.{time_of, last_time}
use Rattle.join_history.specs.Contexts.{pledge_of, context_count}
use Rattle.join_history.specs.Decisions.{IsDecision, HasNumber}
use Rattle.join_history.specs.Leases.{current_settings, IsReleaseOf, IsInEffect}
use Rattle.join_history.specs.Blocks.{block_end_after, block_end}
use Rattle.join_history.specs.Phases.{phase_after, phase}
use Rattle.join_history.specs.Legal.{IsLegal, MayFollow}
use Rattle.join_history.specs.Answers.{grant_answer, answer_after, IsAnswer}
use Rattle.join_history.specs.Summary.{timed_settings_after, timed_settings, IsSumRequest, AreSumRequests, IsSumContext, IsSumGrant}
use Rattle.join_history.specs.SummaryLaws.{IsLastAnswer}
use Rattle.join_history.proofs.ListLemmas.{Any-from_contains, Contains-middle, Last, Earlier, in_pushed, middle_append, All-from_contains}
use Rattle.join_history.proofs.LastLemmas.{IsLast-pushed, IsLast-kept, IsLast-push_cases}
use Rattle.join_history.proofs.LegalLemmas.{IsLegal-push}
use Rattle.join_history.proofs.TimeLemmas.{last_time-push, last_time-rises}
use Rattle.join_history.proofs.LeaseLemmas.{pledge_of-append, one_pledge, Grant-enrolled, IsInEffect-contains}
use Rattle.join_history.proofs.ContextLemmas.{context_count-append}
use Rattle.join_history.proofs.KeyLemmas.{block_end-push, phase-push}
use Rattle.join_history.proofs.AnswerLemmas.{answer_stays, one_answer}
use Rattle.join_history.proofs.KnownLemmas.{enrolled_below, enrolled_pledge, enrolled_once}
use Rattle.join_history.proofs.TwinLemmas.{Twins, turn, same_time, same_phase, same_count, same_timed_settings, same_settings, same_pledge, same_end, shared_context, above_there, number_there, last_answer_there}
use Rattle.join_history.proofs.AlikeLemmas.{answer_of_last, following_there}

-- two legal histories with one summary, and an entry that may follow both
pub record Next (h g : List Entry) (e : Entry) : Type 0 where
  pub twins : Twins h g
  pub may : MayFollow h e
  pub may_other : MayFollow g e

pub next : (h g : List Entry) (e : Entry) → Twins h g → MayFollow h e → Next h g e
next h g e t may = record { twins = t; may = may; may_other = following_there h g e t may }

pub turn_next : (h g : List Entry) (e : Entry) → Next h g e → Next g h e
turn_next h g e n = record { twins = turn h g n.twins; may = n.may_other; may_other = n.may }

pub next_legal : (h g : List Entry) (e : Entry) → Next h g e → IsLegal (h ++ e ∷ [])
next_legal h g e n = IsLegal-push h e n.twins.legal n.may

pub next_time : (h g : List Entry) (e : Entry) → Next h g e → last_time (h ++ e ∷ []) ≡ last_time (g ++ e ∷ [])
next_time h g e n =
    last_time-push h e ∙ ap (λ (x : ℕ). unwrap_or (time_of e) x) (same_time h g n.twins) ∙ sym (last_time-push g e)

pub next_settings : (h g : List Entry) (e : Entry) → Next h g e → timed_settings (h ++ e ∷ []) ≡ timed_settings (g ++ e ∷ [])
next_settings h g e n =
    fold_push timed_settings_after None h e ∙ ap (λ o. timed_settings_after o e) (same_timed_settings h g n.twins)
    ∙ sym (fold_push timed_settings_after None g e)

pub next_phase : (h g : List Entry) (e : Entry) → Next h g e → phase (h ++ e ∷ []) ≡ phase (g ++ e ∷ [])
next_phase h g e n =
    phase-push h e ∙ ap (λ keys. phase_after keys e) (same_phase h g n.twins) ∙ sym (phase-push g e)

pub next_count : (h g : List Entry) (e : Entry) → Next h g e → context_count (h ++ e ∷ []) ≡ context_count (g ++ e ∷ [])
next_count h g e n =
    let a = context_count-append h (e ∷ []) in
    let b = context_count-append g (e ∷ []) in
    let same = same_count h g n.twins in
    omega (arith, a, b, same)

-- a pushed element is in the list
pub Contains-pushed : {X : Type 0} (xs : List X) (x : X) → Contains (xs ++ x ∷ []) x
Contains-pushed xs x = Contains-middle xs x []

next_enroll : (h g : List Entry) (e : Entry) (c : ℕ) (p : PledgeId) (check : List ℕ) → Next h g e
    → Contains (h ++ e ∷ []) (Enroll c p check) → Contains (g ++ e ∷ []) (Enroll c p check)
next_enroll h g e c p check n has = elim (Contains-push_cases h e (Enroll c p check) has) [
  | inl old ↦
      let t = n.twins in
      let below = enrolled_below h c p t.legal (enrolled_pledge h c p check t.legal old) in
      let x = shared_context h g c t below in
      let same = enrolled_once h c x.said.id p x.said.check check t.legal x.of.enrolled old in
      let there = subst (λ q. Contains g (Enroll c q check)) same.0
      (subst (λ (k : List ℕ). Contains g (Enroll c x.said.id k)) same.1 x.of_other.enrolled) in
      Contains-append_left g (e ∷ []) (Enroll c p check) there
  | inr new ↦ subst (Contains (g ++ e ∷ [])) new (Contains-pushed g e)
]

next_end : (h g : List Entry) (e : Entry) (c : ℕ) → Next h g e → block_end (h ++ e ∷ []) c ≡ block_end (g ++ e ∷ []) c
next_end h g e c n =
    block_end-push h c e ∙ ap (λ (x : ℕ). block_end_after c x e) (same_end h g c n.twins) ∙ sym (block_end-push g c e)

-- a number after one more entry was there before, or the entry decides it
pub number_cases : (h : List Entry) (e : Entry) (c n : ℕ) → HasNumber (h ++ e ∷ []) c n → HasNumber h c n ⊎ IsDecision c n e
number_cases h e c n has = elim (Contains-push_cases h e has.1 (has.0, has.2, has.3)) [
  | inl old ↦ inl (Any-from_contains (IsDecision c n) h has.1 old has.4)
  | inr new ↦ inr (subst (IsDecision c n) (sym new) has.4)
]

pub number_kept : (h : List Entry) (e : Entry) (c n : ℕ) → HasNumber h c n → HasNumber (h ++ e ∷ []) c n
number_kept h e c n has =
    Any-from_contains (IsDecision c n) (h ++ e ∷ []) has.1
    (Contains-append_left h (e ∷ []) has.1 (has.0, has.2, has.3)) has.4

pub number_pushed : (h : List Entry) (e : Entry) (c n : ℕ) → IsDecision c n e → HasNumber (h ++ e ∷ []) c n
number_pushed h e c n decides = Any-from_contains (IsDecision c n) (h ++ e ∷ []) e (Contains-pushed h e) decides

-- a number within the window is decided in both
next_number : (h g : List Entry) (e : Entry) (c n : ℕ) → Next h g e
    → ((m : ℕ) → HasNumber (h ++ e ∷ []) c m → m < n + 32) → HasNumber (h ++ e ∷ []) c n → HasNumber (g ++ e ∷ []) c n
next_number h g e c n s near has = elim (number_cases h e c n has) [
  | inl old ↦ number_kept g e c n (number_there h g c n s.twins (λ m there. near m (number_kept h e c m there)) old)
  | inr new ↦ number_pushed g e c n new
]

-- a bound that no number of the one passes is passed by no number of the other
next_at_most : (h g : List Entry) (e : Entry) (c most : ℕ) → Next h g e
    → ((m : ℕ) → HasNumber (h ++ e ∷ []) c m → m ≤ most) → (m : ℕ) → HasNumber (g ++ e ∷ []) c m → m ≤ most
next_at_most h g e c most s bound m has = elim (number_cases g e c m has) [
  | inl old ↦
      let back = above_there g h c m m (turn h g s.twins) old (omega arith) in
      let least = bound back.0 (number_kept h e c back.0 back.1) in
      omega (arith, least, back.2)
  | inr new ↦ bound m (number_pushed h e c m new)
]

-- a refusal has one answer
same_refusal : (h g : List Entry) (o : Option Settings) (time context number : ℕ) (why : Refusal)
    → answer_after h o (Refuse time context number why) ≡ answer_after g o (Refuse time context number why)
same_refusal h g None time context number why = refl
same_refusal h g (Some settings) time context number why = refl

-- an answer depends on the phase and the settings before it
same_answer : (h g : List Entry) (o : Option Settings) (e : Entry) → phase h ≡ phase g → answer_after h o e ≡ answer_after g o e
same_answer h g (Some settings) (Grant time context number address until) same =
    ap (λ keys. grant_answer keys settings address) same
same_answer h g None (Grant time context number address until) same = refl
same_answer h g o (Refuse time context number why) same = same_refusal h g o time context number why
same_answer h g (Some settings) _ same = refl
same_answer h g None _ same = refl

-- the answer of an entry that follows
pub answer_pushed : (h : List Entry) (e : Entry) (c n : ℕ) → IsDecision c n e
    → IsAnswer (h ++ e ∷ []) c n (answer_after h (current_settings h) e)
answer_pushed h e c n decides = record {
  before = h;
  decision = e;
  after = [];
  place = refl;
  decides = decides;
  is_answer = refl;
}

-- the last decision's number, time and answer after one more entry
pub next_last : (h g : List Entry) (e : Entry) (c n time : ℕ) (bytes : List ℕ) → Next h g e
    → IsLastAnswer (h ++ e ∷ []) c n time bytes → IsLastAnswer (g ++ e ∷ []) c n time bytes
next_last h g e c n time bytes s (x, last, decides, made, answer) =
    let legal = next_legal h g e s in
    elim (IsLast-push_cases (λ y. (m : ℕ) × IsDecision c m y) (λ y. (m : ℕ) × IsDecision c m y) h x e (λ z has p. p) (λ z has p. p) last) [
      | inl new ↦
          let own = subst (IsDecision c n) new.0 decides in
          let settings = same_settings h g s.twins in
          let same : bytes ≡ answer_after g (current_settings g) e =
          one_answer (h ++ e ∷ []) c n bytes (answer_after h (current_settings h) e) legal answer (answer_pushed h e c n own)
          ∙ same_answer h g (current_settings h) e (same_phase h g s.twins) ∙ ap (λ o. answer_after g o e) settings in (
            e,
            IsLast-pushed (λ y. (m : ℕ) × IsDecision c m y) g e (n, own),
            own,
            ap time_of (sym new.0) ∙ made,
            subst (IsAnswer (g ++ e ∷ []) c n) (sym same) (answer_pushed g e c n own),
          )
      | inr old ↦
          let before = answer_of_last h c n time x old.0 decides made in
          let same = one_answer (h ++ e ∷ []) c n before.0 bytes legal (answer_stays h (e ∷ []) c n before.0 before.1.4) answer in
          let there = last_answer_there h g c n time before.0 s.twins before.1 in (
            there.0,
            IsLast-kept (λ y. (m : ℕ) × IsDecision c m y) (λ y. (m : ℕ) × IsDecision c m y) g there.0 e (λ z q has. q) there.1.holds old.1 there.1,
            there.2,
            there.3,
            subst (IsAnswer (g ++ e ∷ []) c n) same (answer_stays g (e ∷ []) c n before.0 there.4),
          )
    ]

next_request : (h g : List Entry) (e : Entry) (c : ℕ) (r : SumRequest) → Next h g e → IsSumRequest (h ++ e ∷ []) c r
    → IsSumRequest (g ++ e ∷ []) c r
next_request h g e c r s is =
    let last = next_last h g e c r.number r.time r.answer.items s (is.decision, is.last, is.number, is.time, is.answer) in
    let most = next_at_most h g e c r.greatest s is.at_most in record {
      greatest = next_number h g e c r.greatest s (λ m has. let least = is.at_most m has in omega (arith, least)) is.greatest;
      at_most = most;
      window = λ i small. (
        (λ bit.
            let said = (is.window i small).0 bit in (
              said.0,
              next_number h g e c (r.greatest - i) s
                  (λ m has. let least = is.at_most m has in omega (arith, least, small, said.0)) said.1,
            )),
        (λ said. (is.window i small).1 (
          said.0,
          next_number g h e c (r.greatest - i) (turn_next h g e s)
              (λ m has. let least = most m has in omega (arith, least, small, said.0)) said.1,
        )),
      );
      window_fits = is.window_fits;
      decision = last.0;
      last = last.1;
      number = last.2;
      time = last.3;
      answer = last.4;
    }

next_requests : (h g : List Entry) (e : Entry) (c : ℕ) (o : Option SumRequest) → Next h g e → AreSumRequests (h ++ e ∷ []) c o
    → AreSumRequests (g ++ e ∷ []) c o
next_requests h g e c (Some r) s is = next_request h g e c r s is
next_requests h g e c None s none = λ n has. elim (number_cases g e c n has) [
  | inl old ↦
      let back = above_there g h c n n (turn h g s.twins) old (omega arith) in
      none back.0 (number_kept h e c back.0 back.1)
  | inr new ↦ none n (number_pushed h e c n new)
]

pub next_context : (h g : List Entry) (e : Entry) (c : ℕ) (x : SumContext) → Next h g e → IsSumContext (h ++ e ∷ []) c x
    → IsSumContext (g ++ e ∷ []) c x
next_context h g e c x s is = record {
  enrolled = next_enroll h g e c x.id x.check s is.enrolled;
  end = is.end ∙ next_end h g e c s;
  requests = next_requests h g e c x.last s is.requests;
}

-- an effect stays until a Release
pub IsInEffect-push : (h : List Entry) (e x : Entry) (p : PledgeId) → (IsReleaseOf p e → ⊥) → IsInEffect h p x
    → IsInEffect (h ++ e ∷ []) p x
IsInEffect-push h e x p not effect = record {
  before = effect.before;
  after = effect.after ++ e ∷ [];
  place = middle_append h effect.before effect.after (e ∷ []) x effect.place;
  none_since = All-push (λ y. IsReleaseOf p y → ⊥) effect.after e effect.none_since not;
}

-- an entry that was pushed is in effect
pub IsInEffect-pushed : (h : List Entry) (x : Entry) (p : PledgeId) → IsInEffect (h ++ x ∷ []) p x
IsInEffect-pushed h x p = record {
  before = h;
  after = [];
  place = refl;
  none_since = All-nil (λ y. IsReleaseOf p y → ⊥);
}

-- what is in effect after one more entry is that entry, or was in effect and isn't released by it
pub IsInEffect-cases : (h : List Entry) (e x : Entry) (p : PledgeId) → IsInEffect (h ++ e ∷ []) p x
    → (e ≡ x) ⊎ (IsInEffect h p x × (IsReleaseOf p e → ⊥))
IsInEffect-cases h e x p effect = elim (in_pushed h e effect.before x effect.after effect.place) [
  | Last whole new after ↦ inl new
  | Earlier rest place after ↦
      let since = subst (All (λ y. IsReleaseOf p y → ⊥)) after effect.none_since in
      let before : IsInEffect h p x = record {
        before = effect.before;
        after = rest;
        place = place;
        none_since = All-from_contains (λ y. IsReleaseOf p y → ⊥) rest
            (λ y has. All-contains (λ z. IsReleaseOf p z → ⊥) (rest ++ e ∷ []) y since (Contains-append_left rest (e ∷ []) y has));
      } in
      inr (before, All-contains (λ z. IsReleaseOf p z → ⊥) (rest ++ e ∷ []) e since (Contains-middle rest e []))
]

-- the pledge of a Grant that follows is the same in both
pub next_owner : (h g : List Entry) (e : Entry) (time context number a until : ℕ) (p : PledgeId) → Next h g e
    → e ≡ Grant time context number a until → pledge_of (h ++ e ∷ []) context ≡ Some p → pledge_of (g ++ e ∷ []) context ≡ Some p
next_owner h g e time context number a until p s new owner =
    let granted = subst (λ x. MayFollow h x) new s.may in
    let same = one_pledge (h ++ e ∷ []) context granted.0 p (pledge_of-append h (e ∷ []) context granted.0 granted.2.enrolled) owner in
    pledge_of-append g (e ∷ []) context p
    (sym (same_pledge h g context s.twins) ∙ granted.2.enrolled ∙ ap (λ x. Some x) same)

pub next_grant : (h g : List Entry) (e : Entry) (x : SumGrant) → Next h g e → IsSumGrant (h ++ e ∷ []) x
    → IsSumGrant (g ++ e ∷ []) x
next_grant h g e x s is =
    let grant = Grant is.time is.context is.number x.address x.until in
    let later : last_time (g ++ e ∷ []) < x.until + 3600 = subst (λ (t : ℕ). t < x.until + 3600) (next_time h g e s) is.held in
    elim (IsInEffect-cases h e grant x.id is.effect) [
      | inl new ↦ record {
        time = is.time;
        context = is.context;
        number = is.number;
        effect = subst (IsInEffect (g ++ e ∷ []) x.id) new (IsInEffect-pushed g e x.id);
        pledge = next_owner h g e is.time is.context is.number x.address x.until x.id s new is.pledge;
        held = later;
      }
      | inr (old, not) ↦
          let t = s.twins in
          let known = Grant-enrolled is.time is.context is.number x.address x.until h t.legal (IsInEffect-contains h x.id grant old) in
          let same = one_pledge (h ++ e ∷ []) is.context known.0 x.id (pledge_of-append h (e ∷ []) is.context known.0 known.1) is.pledge in
          let rises = last_time-rises h e s.may in
          let before : IsSumGrant h x = record {
            time = is.time;
            context = is.context;
            number = is.number;
            effect = old;
            pledge = known.1 ∙ ap (λ y. Some y) same;
            held = omega (arith, rises, is.held);
          } in
          let there : IsSumGrant g x = (t.is_other.grants x).0 ((t.is.grants x).1 before) in
          record {
            time = there.time;
            context = there.context;
            number = there.number;
            effect = IsInEffect-push g e (Grant there.time there.context there.number x.address x.until) x.id not there.effect;
            pledge = pledge_of-append g (e ∷ []) there.context x.id there.pledge;
            held = later;
          }
    ]
