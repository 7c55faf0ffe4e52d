-- The summary of a legal history can be read.
use Rattle.std.proofs.Common.{◌≡◌, ℕ, ◌-◌, ◌<◌, List, [], ◌∷◌, ◌++◌, Option, Some, None, Contains, get_or, subst, arith, inl, inr}
use Rattle.std.specs.Int.{bit_at}
use Rattle.std.proofs.lemmas.Bool.{cases_lt}
use Rattle.std.proofs.lemmas.Nat.Bits.{bit_at-lt, bit_at_above}
use Rattle.std.proofs.lemmas.List.Elements.{Contains-push_cases}
use Rattle.edge_traits.specs.declared.names.PledgeId.{PledgeId}
use Rattle.journal_text.specs.declared.summary.SumRequest.{SumRequest}
use Rattle.journal_text.specs.declared.summary.SumContext.{SumContext}
use Rattle.journal_text.specs.declared.entry.Entry.{Entry}
use Rattle.journal_text.specs.declared.entry.Entry.TheVariants.{Enroll}
use Rattle.join_history.specs.Decisions.{HasNumber}
use Rattle.join_history.specs.Legal.{IsLegal, MayFollow}
use Rattle.join_history.specs.Summary.{Summary, IsSummary, IsSumRequest, AreSumRequests}
use Rattle.join_history.proofs.LegalLemmas.{legal_induction}
use Rattle.registrar_state.specs.Restore.{IsReadableRequest, IsReadable}
use Rattle.registrar_state.proofs.ReleaseLemmas.{few_contexts}

-- ---- windows

greatest_is_marked : (h : List Entry) (c : ℕ) (r : SumRequest) → IsSumRequest h c r → bit_at r.window 0 ≡ 1
greatest_is_marked h c r is = (is.window 0 (omega arith)).1 (omega arith, subst (HasNumber h c) (let same : r.greatest ≡ r.greatest - 0 = omega arith in same) is.greatest)

none_above_greatest : (h : List Entry) (c : ℕ) (r : SumRequest) (i : ℕ) → IsSumRequest h c r → r.greatest < i → bit_at r.window i ≡ 0
none_above_greatest h c r i is above = elim (cases_lt i 32) [
  | inl within ↦ elim (cases_lt (bit_at r.window i) 1) [
    | inl none ↦ omega (arith, none)
    | inr some ↦
        let set : bit_at r.window i ≡ 1 = let small = bit_at-lt r.window i in omega (arith, some, small) in
        absurd (omega (arith, above, ((is.window i within).0 set).0))
  ]
  | inr beyond ↦ bit_at_above r.window 32 i is.window_fits (omega (arith, beyond))
]

request_readable : (h : List Entry) (c : ℕ) (x : SumContext) → AreSumRequests h c x.last → IsReadableRequest x.last
request_readable h c x are = readable x.last are
  where
    readable : (last : Option SumRequest) → AreSumRequests h c last → IsReadableRequest last
    readable None are = tt
    readable (Some r) are = record { first = greatest_is_marked h c r are; none_above = λ i above. none_above_greatest h c r i are above }

-- ---- checks

abbrev OneContext : List Entry → Type 0
OneContext h = (c d : ℕ) (p q : PledgeId) (check : List ℕ) → Contains h (Enroll c p check) → Contains h (Enroll d q check) → c ≡ d

one_more : (h : List Entry) (e : Entry) → IsLegal h → MayFollow h e → OneContext h → OneContext (h ++ e ∷ [])
one_more h e legal may one c d p q check has has' = elim (Contains-push_cases h e (Enroll c p check) has) [
  | inl old ↦ elim (Contains-push_cases h e (Enroll d q check) has') [
    | inl old' ↦ one c d p q check old old'
    | inr new' ↦ absurd ((subst (MayFollow h) new' may).2 (c, p, old))
  ]
  | inr new ↦ elim (Contains-push_cases h e (Enroll d q check) has') [
    | inl old' ↦ absurd ((subst (MayFollow h) new may).2 (d, q, old'))
    | inr new' ↦ cc
  ]
]

one_context : (h : List Entry) → IsLegal h → OneContext h
one_context =
    legal_induction OneContext (λ c d p q check has has'. absurd (omega (arith, has.1))) (λ h e legal may one. one_more h e legal may one)

-- ---- summaries

pub readable : (h : List Entry) (s : Summary) → IsLegal h → IsSummary h s → IsReadable s
readable h s legal is = record {
  contexts = record {
    few = let few = few_contexts h legal in let count = is.context_count in omega (arith, few, count);
    windows = λ c x small. request_readable h c (get_or s.contexts c x) (is.contexts c x small).requests;
    distinct = λ c d x less small same.
        let one = is.contexts c x (omega (arith, less, small)) in
        let other = is.contexts d x small in
        let equal = one_context h legal c d _ _ (get_or s.contexts d x).check
        (subst (λ (check : List ℕ). Contains h (Enroll c (get_or s.contexts c x).id check)) same one.enrolled) other.enrolled in
        omega (arith, less, equal);
  };
  nodes = is.nodes_ascend;
}
