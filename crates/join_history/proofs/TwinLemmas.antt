-- Two legal histories with one summary: what of the one is in the other.
use Rattle.std.proofs.Common.{◌≡◌, ◌⊎◌, inl, inr, ℕ, ◌+◌, ◌-◌, ◌<◌, ◌≤◌, List, [], ◌∷◌, length, get_or, Option, Some, None, Contains, refl, sym, ap, ◌∙◌, subst, arith}
use Rattle.std.specs.Int.{bit_at}
use Rattle.std.specs.Prelude.{option_map, fold}
use Rattle.std.proofs.lemmas.Bool.{cases_lt}
use Rattle.std.proofs.lemmas.Option.{same_Some}
use Rattle.edge_traits.specs.declared.names.PledgeId.{PledgeId}
use Rattle.journal_text.specs.declared.settings.Settings.{Settings}
use Rattle.journal_text.specs.declared.summary.SumRequest.{SumRequest}
use Rattle.journal_text.specs.declared.summary.SumContext.{SumContext}
use Rattle.journal_text.specs.declared.summary.SumGrant.{SumGrant}
use Rattle.journal_text.specs.declared.entry.Entry.{Entry}
use Rattle.journal_text.specs.declared.entry.Entry.TheVariants.{Settings as SettingsEntry, Enroll}
use Rattle.join_history.specs.Times.{time_of, last_time, moment}
use Rattle.join_history.specs.Contexts.{pledge_of, context_count, HasCheck}
use Rattle.join_history.specs.Decisions.{IsDecision, HasNumber, IsFresh}
use Rattle.join_history.specs.Leases.{settings_after, current_settings, Holds}
use Rattle.join_history.specs.Blocks.{block_end}
use Rattle.join_history.specs.Phases.{phase}
use Rattle.join_history.specs.Legal.{IsLegal}
use Rattle.join_history.specs.Due.{IsRepeat}
use Rattle.join_history.specs.Answers.{answer_after, IsAnswer}
use Rattle.join_history.specs.Summary.{Summary, timed_settings_after, timed_settings, IsSumRequest, AreSumRequests, IsSumContext, IsSumGrant, IsSummary}
use Rattle.join_history.specs.SummaryLaws.{IsLastAnswer}
use Rattle.join_history.proofs.ListLemmas.{Any-from_contains, option_cases}
use Rattle.join_history.proofs.LastLemmas.{IsLast-unique, IsLast-contains}
use Rattle.join_history.proofs.AnswerLemmas.{one_answer}
use Rattle.join_history.proofs.TotalLemmas.{same_number}
use Rattle.join_history.proofs.KnownLemmas.{enrolled_below, enrolled_pledge, enrolled_once, unenrolled_end, number_below}

-- two legal histories with one summary
pub record Twins (h g : List Entry) : Type 0 where
  pub summary : Summary
  pub legal : IsLegal h
  pub legal_other : IsLegal g
  pub is : IsSummary h summary
  pub is_other : IsSummary g summary

-- the same, the other way round
pub turn : (h g : List Entry) → Twins h g → Twins g h
turn h g t = record {
  summary = t.summary;
  legal = t.legal_other;
  legal_other = t.legal;
  is = t.is_other;
  is_other = t.is;
}

pub same_time : (h g : List Entry) → Twins h g → last_time h ≡ last_time g
same_time h g t = sym t.is.time ∙ t.is_other.time

pub same_moment : (h g : List Entry) (now : ℕ) → Twins h g → moment h now ≡ moment g now
same_moment h g now t = let same = same_time h g t in omega (arith, same)

pub same_phase : (h g : List Entry) → Twins h g → phase h ≡ phase g
same_phase h g t = sym t.is.phase_in_force ∙ t.is_other.phase_in_force

pub same_count : (h g : List Entry) → Twins h g → context_count h ≡ context_count g
same_count h g t = sym t.is.context_count ∙ t.is_other.context_count

-- the current settings are those of the last Settings entry
unfoldable pub settings_of : (ℕ × Settings) → Settings
settings_of timed = timed.1

untimed : (before : Option (ℕ × Settings)) (h : List Entry)
    → fold settings_after (option_map settings_of before) h ≡ option_map settings_of (fold timed_settings_after before h)
unfolding settings_of
untimed before [] = refl
untimed before (SettingsEntry time settings ∷ h) = untimed (Some (time, settings)) h
untimed before (_ ∷ h) = untimed before h

pub current_from_timed : (h : List Entry) → current_settings h ≡ option_map settings_of (timed_settings h)
current_from_timed h = untimed None h

pub same_timed_settings : (h g : List Entry) → Twins h g → timed_settings h ≡ timed_settings g
same_timed_settings h g t = sym t.is.settings ∙ t.is_other.settings

pub same_settings : (h g : List Entry) → Twins h g → current_settings h ≡ current_settings g
same_settings h g t =
    current_from_timed h ∙ ap (option_map settings_of) (same_timed_settings h g t) ∙ sym (current_from_timed g)

-- some context, for places past the list
blank : SumContext
blank = record { id = record { 0 = [] }; check = []; end = 0; last = None }

-- what both histories say of a context
pub record SharedContext (h g : List Entry) (c : ℕ) : Type 0 where
  pub said : SumContext
  pub of : IsSumContext h c said
  pub of_other : IsSumContext g c said

pub shared_context : (h g : List Entry) (c : ℕ) → Twins h g → c < context_count h → SharedContext h g c
shared_context h g c t below =
    let count = t.is.context_count in
    let small : c < length t.summary.contexts = omega (arith, count, below) in record {
      said = get_or t.summary.contexts c blank;
      of = t.is.contexts c blank small;
      of_other = t.is_other.contexts c blank small;
    }

-- a context that isn't enrolled has no pledge
pub unenrolled_pledge : (h : List Entry) (c : ℕ) → IsLegal h → context_count h ≤ c → pledge_of h c ≡ None
unenrolled_pledge h c legal past = elim (option_cases (pledge_of h c)) [
  | inl none ↦ none
  | inr known ↦ let below = enrolled_below h c known.0 legal known.1 in absurd (omega (arith, below, past))
]

pub same_pledge : (h g : List Entry) (c : ℕ) → Twins h g → pledge_of h c ≡ pledge_of g c
same_pledge h g c t = elim (cases_lt c (context_count h)) [
  | inl below ↦
      let x = shared_context h g c t below in
      enrolled_pledge h c x.said.id x.said.check t.legal x.of.enrolled
      ∙ sym (enrolled_pledge g c x.said.id x.said.check t.legal_other x.of_other.enrolled)
  | inr past ↦
      let count = same_count h g t in
      let past_other : context_count g ≤ c = omega (arith, count, past) in
      unenrolled_pledge h c t.legal past ∙ sym (unenrolled_pledge g c t.legal_other past_other)
]

pub same_end : (h g : List Entry) (c : ℕ) → Twins h g → block_end h c ≡ block_end g c
same_end h g c t = elim (cases_lt c (context_count h)) [
  | inl below ↦ let x = shared_context h g c t below in sym x.of.end ∙ x.of_other.end
  | inr past ↦
      let count = same_count h g t in
      let past_other : context_count g ≤ c = omega (arith, count, past) in
      unenrolled_end h c t.legal past ∙ sym (unenrolled_end g c t.legal_other past_other)
]

-- a check of the one is a check of the other
pub check_there : (h g : List Entry) (check : List ℕ) → Twins h g → HasCheck h check → HasCheck g check
check_there h g check t (c, p, has) =
    let below = enrolled_below h c p t.legal (enrolled_pledge h c p check t.legal has) in
    let x = shared_context h g c t below in
    let same = enrolled_once h c x.said.id p x.said.check check t.legal x.of.enrolled has in
    (c, x.said.id, subst (λ (k : List ℕ). Contains g (Enroll c x.said.id k)) same.1 x.of_other.enrolled)

-- what both histories say of a context's requests
SharedRequests : List Entry → List Entry → ℕ → Type 0
SharedRequests h g c = (((n : ℕ) → HasNumber h c n → ⊥) × ((n : ℕ) → HasNumber g c n → ⊥))
    ⊎ ((r : SumRequest) × IsSumRequest h c r × IsSumRequest g c r)

said_requests : (h g : List Entry) (c : ℕ) (o : Option SumRequest) → AreSumRequests h c o → AreSumRequests g c o
    → SharedRequests h g c
unfolding SharedRequests
said_requests h g c None a b = inl (a, b)
said_requests h g c (Some r) a b = inr (r, a, b)

shared_requests : (h g : List Entry) (c : ℕ) → Twins h g → SharedRequests h g c
unfolding SharedRequests
shared_requests h g c t = elim (cases_lt c (context_count h)) [
  | inl below ↦ let x = shared_context h g c t below in said_requests h g c x.said.last x.of.requests x.of_other.requests
  | inr past ↦
      let count = same_count h g t in
      inl (
        (λ n has. let below = number_below h c n t.legal has in omega (arith, below, past)),
        (λ n has. let below = number_below g c n t.legal_other has in omega (arith, below, past, count)),
      )
]

-- a number of the one that is at least b has one beside it in the other
pub above_there : (h g : List Entry) (c b m : ℕ) → Twins h g → HasNumber h c m → b ≤ m
    → (n : ℕ) × HasNumber g c n × (b ≤ n)
unfolding SharedRequests
above_there h g c b m t has above = elim (shared_requests h g c t) [
  | inl none ↦ absurd (none.0 m has)
  | inr said ↦ let most = said.1.at_most m has in (said.0.greatest, said.2.greatest, omega (arith, most, above))
]

-- a bound of the one's numbers is a bound of the other's
pub bound_there : (h g : List Entry) (c b : ℕ) → Twins h g → ((m : ℕ) → HasNumber h c m → m < b)
    → (m : ℕ) → HasNumber g c m → m < b
bound_there h g c b t bound m has = elim (cases_lt m b) [
  | inl below ↦ below
  | inr above ↦
      let back = above_there g h c b m (turn h g t) has above in
      let less = bound back.0 back.1 in
      absurd (omega (arith, less, back.2))
]

-- a number within the window of the one was decided in the other
pub number_there : (h g : List Entry) (c n : ℕ) → Twins h g → ((m : ℕ) → HasNumber h c m → m < n + 32)
    → HasNumber h c n → HasNumber g c n
unfolding SharedRequests
number_there h g c n t near has = elim (shared_requests h g c t) [
  | inl none ↦ absurd (none.0 n has)
  | inr said ↦
      let r = said.0 in
      let most = said.1.at_most n has in
      let close = near r.greatest said.1.greatest in
      let place = r.greatest - n in
      let small : place < 32 = omega (arith, most, close) in
      let is : r.greatest - place ≡ n = omega (arith, most) in
      let low : place ≤ r.greatest = omega arith in
      let bit : bit_at r.window place ≡ 1 = (said.1.window place small).1 (low, subst (HasNumber h c) (sym is) has) in
      subst (HasNumber g c) is ((said.2.window place small).0 bit).1
]

-- a number that is fresh in the one is fresh in the other
pub fresh_there : (h g : List Entry) (c n : ℕ) → Twins h g → IsFresh h c n → IsFresh g c n
fresh_there h g c n t fresh =
    let window = bound_there h g c (n + 32) t fresh.in_window in record {
      unused = λ has. fresh.unused (number_there g h c n (turn h g t) window has);
      in_window = window;
    }

-- the last decision's number, time and answer are the other's
pub last_answer_there : (h g : List Entry) (c n time : ℕ) (bytes : List ℕ) → Twins h g
    → IsLastAnswer h c n time bytes → IsLastAnswer g c n time bytes
unfolding SharedRequests
last_answer_there h g c n time bytes t (e, last, decides, made, answer) = elim (shared_requests h g c t) [
  | inl none ↦ absurd (none.0 n (Any-from_contains (IsDecision c n) h e (IsLast-contains (λ x. (m : ℕ) × IsDecision c m x) h e last) decides))
  | inr said ↦
      let r = said.0 in
      let a = said.1 in
      let b = said.2 in
      let one : e ≡ a.decision = IsLast-unique (λ x. (m : ℕ) × IsDecision c m x) h e a.decision last a.last in
      let number : r.number ≡ n = same_number c r.number n a.decision a.number (subst (IsDecision c n) one decides) in
      let when : r.time ≡ time = same_Some r.time time (sym a.time ∙ ap time_of (sym one) ∙ made) in
      let said_answer = subst (λ (m : ℕ). IsAnswer h c m r.answer.items) number a.answer in
      let same : r.answer.items ≡ bytes = one_answer h c n r.answer.items bytes t.legal said_answer answer in (
        b.decision,
        b.last,
        subst (λ (m : ℕ). IsDecision c m b.decision) number b.number,
        subst (λ (x : ℕ). time_of b.decision ≡ Some x) when b.time,
        subst (IsAnswer g c n) same (subst (λ (m : ℕ). IsAnswer g c m r.answer.items) number b.answer),
      )
]

-- a repeat of the last decision has an answer
pub answer_of_repeat : (h : List Entry) (c n time : ℕ) → IsRepeat h c n time → (bytes : List ℕ) × IsLastAnswer h c n time bytes
answer_of_repeat h c n time (e, last, decides, made) =
    let answer : IsAnswer h c n (answer_after last.before (current_settings last.before) e) = record {
      before = last.before;
      decision = e;
      after = last.after;
      place = last.place;
      decides = decides;
      is_answer = refl;
    } in
    (answer_after last.before (current_settings last.before) e, (e, last, decides, made, answer))

pub repeat_there : (h g : List Entry) (c n time : ℕ) → Twins h g → IsRepeat h c n time → IsRepeat g c n time
repeat_there h g c n time t repeat =
    let answer = answer_of_repeat h c n time repeat in
    let there = last_answer_there h g c n time answer.0 t answer.1 in
    (there.0, there.1, there.2, there.3)

-- an address that is held in the one is held in the other
pub holds_there : (h g : List Entry) (s a : ℕ) (p : PledgeId) → Twins h g → last_time h ≤ s → Holds h s a p → Holds g s a p
holds_there h g s a p t later (time, context, number, until, effect, owner, held) =
    let x : SumGrant = record { id = p; address = a; until = until } in
    let of : IsSumGrant h x = record {
      time = time;
      context = context;
      number = number;
      effect = effect;
      pledge = owner;
      held = omega (arith, later, held);
    } in
    let other : IsSumGrant g x = (t.is_other.grants x).0 ((t.is.grants x).1 of) in
    (other.time, other.context, other.number, until, other.effect, other.pledge, held)
