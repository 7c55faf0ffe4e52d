-- The rows of a summary's contexts are those of each history that has it.
use Rattle.std.proofs.Common.{zero, suc, ◌≡◌, ◌⊎◌, inl, inr, ℕ, ◌<◌, ◌-◌, List, [], ◌∷◌, ◌++◌, length, get_or, Option, Some, None, MatchOption, refl, sym, ap, ◌∙◌, subst, arith}
use Rattle.std.proofs.lemmas.Bool.{cases_lt}
use Rattle.std.proofs.lemmas.List.{length-append}
use Rattle.replay_window.specs.Parts.{AreBitsOf, StandsFor}
use Rattle.journal_text.specs.declared.summary.SumRequest.{SumRequest}
use Rattle.journal_text.specs.declared.summary.SumContext.{SumContext}
use Rattle.journal_text.specs.declared.entry.Entry.{Entry}
use Rattle.journal_text.specs.declared.entry.Entry.TheVariants.{Grant, Refuse}
use Rattle.join_history.specs.Decisions.{IsDecision, HasNumber}
use Rattle.join_history.specs.Legal.{IsLegal}
use Rattle.join_history.specs.Summary.{IsSumRequest, AreSumRequests, Summary, IsSummary}
use Rattle.join_history.proofs.ListLemmas.{push_induction}
use Rattle.registrar_state.specs.declared.contexts.LastRequest.{LastRequest}
use Rattle.registrar_state.specs.declared.contexts.Row.{Row}
use Rattle.registrar_state.specs.Contexts.{AreNumbersOf, IsLastOf, AreRows}
use Rattle.registrar_state.specs.Restore.{IsRowFor, AreRowsFor}
use Rattle.registrar_state.proofs.ContextSteps.{number_decides, numbers_kept, numbers_pushed, pushed_before, pushed_at}

-- ---- the numbers of a context as a list

record HaveNumbers (h : List Entry) (c : ℕ) : Type 0 where
  numbers : List ℕ
  are : AreNumbersOf h c numbers

decides_number : (c : ℕ) (e : Entry) → ((n : ℕ) × IsDecision c n e) ⊎ ((n : ℕ) → IsDecision c n e → ⊥)
decides_number c (Grant time context number address until) = elim (number_decides context c) [
  | inl same ↦ inl (number, (same, refl))
  | inr other ↦ inr (λ n decides. other decides.0)
]
decides_number c (Refuse time context number why) = elim (number_decides context c) [
  | inl same ↦ inl (number, (same, refl))
  | inr other ↦ inr (λ n decides. other decides.0)
]
decides_number c _ = inr (λ n decides. decides)

have_more : (c : ℕ) (h : List Entry) (e : Entry) → HaveNumbers h c → HaveNumbers (h ++ e ∷ []) c
have_more c h e have = elim (decides_number c e) [
  | inl (n, decides) ↦ record { numbers = have.numbers ++ n ∷ []; are = numbers_pushed h e c n have.numbers decides have.are }
  | inr none ↦ record { numbers = have.numbers; are = numbers_kept h e c have.numbers none have.are }
]

have_numbers : (c : ℕ) (h : List Entry) → HaveNumbers h c
have_numbers c =
    push_induction (λ h. HaveNumbers h c)
    (record { numbers = []; are = λ n. (λ has. absurd (omega (arith, has.1)), λ has. absurd (omega (arith, has.2))) })
    (λ h e have. have_more c h e have)

-- ---- one row

-- the numbers of a context, and its window
record HaveWindow (h : List Entry) (c : ℕ) (window : Option (ℕ × ℕ)) : Type 0 where
  numbers : List ℕ
  are : AreNumbersOf h c numbers
  stands : StandsFor numbers window

none_taken : (h : List Entry) (c : ℕ) → ((n : ℕ) → HasNumber h c n → ⊥) → HaveWindow h c None
none_taken h c none = record {
  numbers = [];
  are = λ n. (λ has. absurd (omega (arith, has.1)), λ has. absurd (none n has));
  stands = refl;
}

some_taken : (h : List Entry) (c : ℕ) (r : SumRequest) → IsSumRequest h c r → HaveWindow h c (Some (r.greatest, r.window))
some_taken h c r is =
    let have = have_numbers c h in
    let bits : AreBitsOf have.numbers r.greatest r.window = record {
      taken = (have.are r.greatest).1 is.greatest;
      at_most = λ m has. is.at_most m ((have.are m).0 has);
      marks = λ i small. (
        λ set. let at = (is.window i small).0 set in (at.0, (have.are (r.greatest - i)).1 at.1),
        λ at. (is.window i small).1 (at.0, (have.are (r.greatest - i)).0 at.1),
      );
    } in
    record { numbers = have.numbers; are = have.are; stands = bits }

have_window : (h : List Entry) (c : ℕ) (o : Option SumRequest) (window : Option (ℕ × ℕ)) → AreSumRequests h c o
    → MatchOption o (window ≡ None) (λ r. window ≡ Some (r.greatest, r.window)) → HaveWindow h c window
have_window h c None window none is = subst (HaveWindow h c) (sym is) (none_taken h c none)
have_window h c (Some r) window some is = subst (HaveWindow h c) (sym is) (some_taken h c r some)

pub row_for : (x : SumContext) (window : Option (ℕ × ℕ)) (last : Option LastRequest)
    → MatchOption x.last (window ≡ None) (λ r. window ≡ Some (r.greatest, r.window))
    → ((h : List Entry) (c : ℕ) → IsLegal h → AreSumRequests h c x.last → IsLastOf h c last)
    → IsRowFor x (record { id = x.id; check = x.check; end = x.end; window = window; last = last })
row_for x window last taken told = record {
  check = refl;
  is_row = λ h c legal is.
      let have = have_window h c x.last window is.requests taken in record {
        enrolled = is.enrolled;
        end = is.end;
        numbers = have.numbers;
        are_numbers = have.are;
        window = have.stands;
        last = told h c legal is.requests;
      };
}

-- ---- all rows

pub rows_for_none : (contexts : List SumContext) (rows : List Row) → rows ≡ [] → AreRowsFor contexts rows
rows_for_none contexts rows none = let few = ap length none in record {
  few = omega (arith, few);
  each = λ c x row small. absurd (omega (arith, few, small));
}

pub rows_for_push : (contexts : List SumContext) (rows : List Row) (x : SumContext) (new : Row) → AreRowsFor contexts rows
    → length rows < length contexts → ((d : SumContext) → get_or contexts (length rows) d ≡ x) → IsRowFor x new
    → AreRowsFor contexts (rows ++ new ∷ [])
rows_for_push contexts rows x new are below at is = record {
  few = rw length-append (omega (arith, below));
  each = λ c d row small. elim (cases_lt c (length rows)) [
    | inl before ↦ subst (IsRowFor (get_or contexts c d)) (sym (pushed_before rows new row c before)) (are.each c d row before)
    | inr past ↦
        let last : c ≡ length rows = omega (arith, past, rw length-append at small) in
        subst (λ (k : ℕ). IsRowFor (get_or contexts k d) (get_or (rows ++ new ∷ []) k row)) (sym last)
        (subst (IsRowFor (get_or contexts (length rows) d)) (sym (pushed_at rows new row))
        (subst (λ (y : SumContext). IsRowFor y new) (sym (at d)) is))
  ];
}

-- a context that is there, whatever would stand for one that isn't
pub same_context : (xs : List SumContext) (c : ℕ) (d e : SumContext) → c < length xs → get_or xs c d ≡ get_or xs c e
same_context [] c d e small = absurd (omega (arith, small))
same_context (x ∷ xs) zero d e small = refl
same_context (x ∷ xs) (suc c) d e small = same_context xs c d e (omega (arith, small))

some_context : (xs : List SumContext) (c : ℕ) → c < length xs → SumContext
some_context [] c small = absurd (omega (arith, small))
some_context (x ∷ xs) c small = x

pub rows_restored : (h : List Entry) (s : Summary) (rows : List Row) → IsLegal h → IsSummary h s → AreRowsFor s.contexts rows
    → length rows ≡ length s.contexts → AreRows h rows
rows_restored h s rows legal summary are count = record {
  count = count ∙ summary.context_count;
  each = λ c row small.
      let inside : c < length s.contexts = subst (λ (n : ℕ). c < n) count small in
      let x = some_context s.contexts c inside in
      (are.each c x row small).is_row h c legal (summary.contexts c x inside);
}
