-- What is kept of the contexts after one more entry.
use Rattle.std.proofs.Common.{◌≡◌, ◌≢◌, ◌⊎◌, inl, inr, ℕ, zero, suc, ◌<◌, ◌==◌, true, false, if◌then◌else◌, List, [], ◌∷◌, ◌++◌, length, get_or, Option, Some, None, Contains, refl, sym, ap, ◌∙◌, subst, arith}
use Rattle.std.proofs.lemmas.Bool.{cases_lt, eq-eqb}
use Rattle.std.proofs.lemmas.List.{length-append}
use Rattle.std.proofs.lemmas.List.Elements.{Contains-push_cases, Contains-append_left}
use Rattle.edge_traits.specs.declared.names.PledgeId.{PledgeId}
use Rattle.journal_text.specs.declared.entry.Entry.{Entry}
use Rattle.journal_text.specs.declared.entry.Entry.TheVariants.{Enroll, Grant, Refuse, Block}
use Rattle.join_history.specs.Times.{time_of}
use Rattle.join_history.specs.Contexts.{pledge_of, context_count}
use Rattle.join_history.specs.Decisions.{IsDecision, HasNumber}
use Rattle.join_history.specs.Blocks.{block_end, block_end_after}
use Rattle.join_history.specs.Leases.{current_settings}
use Rattle.join_history.specs.Answers.{IsAnswer, answer_after}
use Rattle.join_history.specs.Legal.{IsLegal, MayFollow}
use Rattle.join_history.proofs.LastLemmas.{IsLast-kept, IsLast-pushed}
use Rattle.join_history.proofs.ContextLemmas.{context_count-append}
use Rattle.join_history.proofs.KeyLemmas.{block_end-push, Decided, decided}
use Rattle.join_history.proofs.AnswerLemmas.{answer_stays}
use Rattle.join_history.proofs.KnownLemmas.{enrolled_pledge, number_below, unenrolled_end}
use Rattle.join_history.proofs.NextLemmas.{Contains-pushed, number_cases, number_kept, number_pushed, answer_pushed}
use Rattle.registrar_state.specs.declared.contexts.LastRequest.{LastRequest}
use Rattle.registrar_state.specs.declared.contexts.Row.{Row}
use Rattle.registrar_state.specs.Last.{IsTold}
use Rattle.registrar_state.specs.Contexts.{AreNumbersOf, IsLastRequest, IsLastOf, IsRow, AreRows, SetsEnd, Decides}

-- ---- the numbers of a context

-- the entry decides one number of the context
pub one_decided : (c n m : ℕ) (e : Entry) → IsDecision c n e → IsDecision c m e → n ≡ m
one_decided c n m (Grant time context number address until) a b = sym a.1 ∙ b.1
one_decided c n m (Refuse time context number why) a b = sym a.1 ∙ b.1
one_decided c n m _ a b = absurd a

pub numbers_kept : (h : List Entry) (e : Entry) (c : ℕ) (numbers : List ℕ) → ((n : ℕ) → IsDecision c n e → ⊥)
    → AreNumbersOf h c numbers → AreNumbersOf (h ++ e ∷ []) c numbers
numbers_kept h e c numbers not are n = (
  λ has. number_kept h e c n ((are n).0 has),
  λ has. elim (number_cases h e c n has) [
    | inl old ↦ (are n).1 old
    | inr new ↦ absurd (not n new)
  ],
)

pub numbers_pushed : (h : List Entry) (e : Entry) (c number : ℕ) (numbers : List ℕ) → IsDecision c number e
    → AreNumbersOf h c numbers → AreNumbersOf (h ++ e ∷ []) c (numbers ++ number ∷ [])
numbers_pushed h e c number numbers decides are n = (
  λ has. elim (Contains-push_cases numbers number n has) [
    | inl old ↦ number_kept h e c n ((are n).0 old)
    | inr new ↦ number_pushed h e c n (subst (λ (m : ℕ). IsDecision c m e) new decides)
  ],
  λ has. elim (number_cases h e c n has) [
    | inl old ↦ Contains-append_left numbers (number ∷ []) n ((are n).1 old)
    | inr new ↦ subst (Contains (numbers ++ number ∷ [])) (one_decided c number n e decides new) (Contains-pushed numbers number)
  ],
)

-- ---- rows

last_kept : (h : List Entry) (e : Entry) (c : ℕ) (o : Option LastRequest) → ((n : ℕ) → IsDecision c n e → ⊥)
    → IsLastOf h c o → IsLastOf (h ++ e ∷ []) c o
last_kept h e c None not is = λ n has. elim (number_cases h e c n has) [
  | inl old ↦ is n old
  | inr new ↦ not n new
]
last_kept h e c (Some l) not is = record {
  decision = is.decision;
  last = IsLast-kept (λ x. (n : ℕ) × IsDecision c n x) (λ x. (n : ℕ) × IsDecision c n x) h is.decision e (λ z q has. q) is.last.holds (λ d. not d.0 d.1) is.last;
  number = is.number;
  time = is.time;
  answer = answer_stays h (e ∷ []) c l.number l.answer.items is.answer;
  told = is.told;
}

-- a row stays where the entry decides no request of the context and sets no block end
row_kept : (h : List Entry) (e : Entry) (c : ℕ) (row : Row) → ((n : ℕ) → IsDecision c n e → ⊥)
    → block_end_after c (block_end h c) e ≡ block_end h c → IsRow h c row → IsRow (h ++ e ∷ []) c row
row_kept h e c row not same is = record {
  enrolled = Contains-append_left h (e ∷ []) (Enroll c row.id row.check) is.enrolled;
  end = is.end ∙ sym (block_end-push h c e ∙ same);
  numbers = is.numbers;
  are_numbers = numbers_kept h e c is.numbers not is.are_numbers;
  window = is.window;
  last = last_kept h e c row.last not is.last;
}

-- the entry enrolls no context, decides no request and sets no block end
pub record IsOfNoContext (e : Entry) : Type 0 where
  pub count : context_count (e ∷ []) ≡ 0
  pub no_decision : (c n : ℕ) → IsDecision c n e → ⊥
  pub no_block : (c end : ℕ) → block_end_after c end e ≡ end

count_kept : (h : List Entry) (e : Entry) (n : ℕ) → context_count (e ∷ []) ≡ 0 → n ≡ context_count h → n ≡ context_count (h ++ e ∷ [])
count_kept h e n none is = let counted = context_count-append h (e ∷ []) in omega (arith, counted, none, is)

pub rows_kept : (h : List Entry) (e : Entry) (rows : List Row) → IsOfNoContext e → AreRows h rows → AreRows (h ++ e ∷ []) rows
rows_kept h e rows none is = record {
  count = count_kept h e (length rows) none.count is.count;
  each = λ c row small.
      row_kept h e c (get_or rows c row) (none.no_decision c) (none.no_block c (block_end h c)) (is.each c row small);
}

-- ---- Enroll

new_row : (h : List Entry) (c : ℕ) (p : PledgeId) (check : List ℕ) → IsLegal h → c ≡ context_count h
    → IsRow (h ++ Enroll c p check ∷ []) c (record { id = p; check = check; end = 0; window = None; last = None })
new_row h c p check legal next =
    let none : (n : ℕ) → HasNumber (h ++ Enroll c p check ∷ []) c n → ⊥ = λ n has.
    elim (number_cases h (Enroll c p check) c n has) [
      | inl old ↦ let below = number_below h c n legal old in absurd (omega (arith, below, next))
      | inr new ↦ new
    ] in
    record {
      enrolled = Contains-pushed h (Enroll c p check);
      end = sym (block_end-push h c (Enroll c p check) ∙ unenrolled_end h c legal (omega (arith, next)));
      numbers = [];
      are_numbers = λ n. (λ has. absurd (omega (arith, has.1)), λ has. absurd (none n has));
      window = refl;
      last = none;
    }

pub pushed_before : (rows : List Row) (new d : Row) (c : ℕ) → c < length rows → get_or (rows ++ new ∷ []) c d ≡ get_or rows c d
pushed_before [] new d c small = absurd (omega (arith, small))
pushed_before (row ∷ rows) new d zero small = refl
pushed_before (row ∷ rows) new d (suc c) small = pushed_before rows new d c (omega (arith, small))

pub pushed_at : (rows : List Row) (new d : Row) → get_or (rows ++ new ∷ []) (length rows) d ≡ new
pushed_at [] new d = refl
pushed_at (row ∷ rows) new d = pushed_at rows new d

pub rows_enrolled : (h : List Entry) (c : ℕ) (p : PledgeId) (check : List ℕ) (rows : List Row) → IsLegal h
    → MayFollow h (Enroll c p check) → AreRows h rows
    → AreRows (h ++ Enroll c p check ∷ []) (rows ++ (record { id = p; check = check; end = 0; window = None; last = None }) ∷ [])
rows_enrolled h c p check rows legal may is =
    let e = Enroll c p check in
    let new : Row = record { id = p; check = check; end = 0; window = None; last = None } in
    let counted = context_count-append h (e ∷ []) in
    let count = is.count in
    record {
      count = rw length-append (omega (arith, counted, count));
      each = λ d row small. elim (cases_lt d (length rows)) [
        | inl below ↦ subst (IsRow (h ++ e ∷ []) d) (sym (pushed_before rows new row d below))
            (row_kept h e d (get_or rows d row) (λ n decides. decides) refl (is.each d row below))
        | inr past ↦
            let last : d ≡ length rows = omega (arith, past, rw length-append at small) in
            subst (λ (x : ℕ). IsRow (h ++ e ∷ []) x (get_or (rows ++ new ∷ []) x row)) (sym last)
            (subst (IsRow (h ++ e ∷ []) (length rows)) (sym (pushed_at rows new row))
            (subst (λ (x : ℕ). IsRow (h ++ e ∷ []) x new) (may.0 ∙ sym is.count) (new_row h c p check legal may.0)))
      ];
    }

-- ---- Block

set_row : (h : List Entry) (c to : ℕ) (old new : Row) → SetsEnd to old new → IsRow h c old → IsRow (h ++ Block c to ∷ []) c new
set_row h c to old new sets is =
    let kept : IsRow (h ++ Block c to ∷ []) c (record { id = old.id; check = old.check; end = to; window = old.window; last = old.last }) = record {
      enrolled = Contains-append_left h (Block c to ∷ []) (Enroll c old.id old.check) is.enrolled;
      end = sym (block_end-push h c (Block c to) ∙ ap (λ b. if b then to else block_end h c) (eq-eqb c c refl));
      numbers = is.numbers;
      are_numbers = numbers_kept h (Block c to) c is.numbers (λ n decides. decides) is.are_numbers;
      window = is.window;
      last = last_kept h (Block c to) c old.last (λ n decides. decides) is.last;
    } in
    subst (IsRow (h ++ Block c to ∷ []) c) (sym sets) kept

other_block : (c d to end : ℕ) → d ≢ c → block_end_after d end (Block c to) ≡ end
other_block c d to end other =
    (elim (c == d) as (λ b. Decided b c d → (if b then to else end) ≡ end) [
      | true ↦ λ same. absurd (other (sym same))
      | false ↦ λ _. refl
    ]) (decided c d)

-- the rows but one stay
pub record ChangesRow (c : ℕ) (old new : List Row) : Type 0 where
  pub others : (d : ℕ) (row : Row) → d ≢ c → get_or new d row ≡ get_or old d row
  pub len : length new ≡ length old

-- two numbers are the same or not
pub number_decides : (c d : ℕ) → (c ≡ d) ⊎ (c ≢ d)
number_decides c d = elim (cases_lt c d) [
  | inl below ↦ inr (λ same. omega (arith, below, same))
  | inr from ↦ elim (cases_lt d c) [
    | inl above ↦ inr (λ same. omega (arith, above, same))
    | inr to ↦ inl (omega (arith, from, to))
  ]
]

rows_changed : (h : List Entry) (e : Entry) (c : ℕ) (old new : List Row) → context_count (e ∷ []) ≡ 0
    → ((d n : ℕ) → d ≢ c → IsDecision d n e → ⊥) → ((d : ℕ) → d ≢ c → block_end_after d (block_end h d) e ≡ block_end h d)
    → ChangesRow c old new → ((row : Row) → c < length old → IsRow (h ++ e ∷ []) c (get_or new c row)) → AreRows h old
    → AreRows (h ++ e ∷ []) new
rows_changed h e c old new none not same changes at is = record {
  count = changes.len ∙ count_kept h e (length old) none is.count;
  each = λ d row small.
      let within : d < length old = subst (λ (x : ℕ). d < x) changes.len small in
      elim (number_decides d c) [
        | inl own ↦ subst (λ (x : ℕ). IsRow (h ++ e ∷ []) x (get_or new x row)) (sym own) (at row (subst (λ (x : ℕ). x < length old) own within))
        | inr other ↦ subst (IsRow (h ++ e ∷ []) d) (sym (changes.others d row other))
            (row_kept h e d (get_or old d row) (λ n. not d n other) (same d other) (is.each d row within))
      ];
}

pub rows_set : (h : List Entry) (c to : ℕ) (old new : List Row) → ChangesRow c old new
    → ((row : Row) → SetsEnd to (get_or old c row) (get_or new c row)) → AreRows h old → AreRows (h ++ Block c to ∷ []) new
rows_set h c to old new changes sets is =
    rows_changed h (Block c to) c old new refl (λ d n other decides. decides) (λ d. other_block c d to (block_end h d)) changes
    (λ row small. set_row h c to (get_or old c row) (get_or new c row) (sets row) (is.each c row small)) is

-- ---- Grant and Refuse

-- the entry decides this request of the context, and it is reported and answered so
pub record IsDecided (h : List Entry) (e : Entry) (c : ℕ) (l : LastRequest) : Type 0 where
  pub decides : IsDecision c l.number e
  pub time : time_of e ≡ Some l.time
  pub told : IsTold e l.told
  pub answer : l.answer.items ≡ answer_after h (current_settings h) e
  pub count : context_count (e ∷ []) ≡ 0
  pub no_block : (d end : ℕ) → block_end_after d end e ≡ end
  pub others : (d n : ℕ) → IsDecision d n e → d ≡ c

decided_last : (h : List Entry) (e : Entry) (c : ℕ) (l : LastRequest) → IsDecided h e c l → IsLastRequest (h ++ e ∷ []) c l
decided_last h e c l is = record {
  decision = e;
  last = IsLast-pushed (λ x. (n : ℕ) × IsDecision c n x) h e (l.number, is.decides);
  number = is.decides;
  time = is.time;
  answer = subst (IsAnswer (h ++ e ∷ []) c l.number) (sym is.answer) (answer_pushed h e c l.number is.decides);
  told = is.told;
}

row_decided : (h : List Entry) (e : Entry) (c : ℕ) (l : LastRequest) (old new : Row) → IsDecided h e c l
    → Decides l.number l old new → IsRow h c old → IsRow (h ++ e ∷ []) c new
row_decided h e c l old new decided decides is = record {
  enrolled = subst (λ (k : List ℕ). Contains (h ++ e ∷ []) (Enroll c new.id k)) (sym decides.check)
      (subst (λ p. Contains (h ++ e ∷ []) (Enroll c p old.check)) (sym decides.id)
      (Contains-append_left h (e ∷ []) (Enroll c old.id old.check) is.enrolled));
  end = decides.end ∙ is.end ∙ sym (block_end-push h c e ∙ decided.no_block c (block_end h c));
  numbers = is.numbers ++ l.number ∷ [];
  are_numbers = numbers_pushed h e c l.number is.numbers decided.decides is.are_numbers;
  window = decides.window is.numbers is.window;
  last = subst (IsLastOf (h ++ e ∷ []) c) (sym decides.last) (decided_last h e c l decided);
}

pub rows_decided : (h : List Entry) (e : Entry) (c : ℕ) (l : LastRequest) (old new : List Row) → IsDecided h e c l
    → ChangesRow c old new → ((row : Row) → Decides l.number l (get_or old c row) (get_or new c row)) → AreRows h old
    → AreRows (h ++ e ∷ []) new
rows_decided h e c l old new decided changes decides is =
    rows_changed h e c old new decided.count (λ d n other own. other (decided.others d n own))
    (λ d other. decided.no_block d (block_end h d)) changes
    (λ row small. row_decided h e c l (get_or old c row) (get_or new c row) decided (decides row) (is.each c row small)) is

-- ---- what the rows say

pub row_pledge : (h : List Entry) (c : ℕ) (row : Row) → IsLegal h → IsRow h c row → pledge_of h c ≡ Some row.id
row_pledge h c row legal is = enrolled_pledge h c row.id row.check legal is.enrolled
