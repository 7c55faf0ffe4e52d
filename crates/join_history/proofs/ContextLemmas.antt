-- Lemmas about the numbers of contexts.
use Rattle.std.proofs.Common.{◌≡◌, ℕ, ◌+◌, List, [], ◌∷◌, ◌++◌, refl, arith, append_assoc}
use Rattle.edge_traits.specs.declared.names.PledgeId.{PledgeId}
use Rattle.journal_text.specs.declared.entry.Entry.{Entry}
use Rattle.journal_text.specs.declared.entry.Entry.TheVariants.{Enroll}
use Rattle.join_history.specs.Contexts.{context_count}
use Rattle.join_history.specs.Legal.{IsLegal}

-- contexts are counted part by part
pub context_count-append : (h g : List Entry) → context_count (h ++ g) ≡ context_count h + context_count g
context_count-append [] g = omega arith
context_count-append (Enroll context id check ∷ h) g = rw (context_count-append h g) (omega arith)
context_count-append (_ ∷ h) g = context_count-append h g

-- no two Enrolls of a legal history have one number
pub one_number : (before between after : List Entry) (c : ℕ) (p q : PledgeId) (check other : List ℕ)
    → IsLegal (before ++ Enroll c p check ∷ between ++ Enroll c q other ∷ after) → ⊥
one_number before between after c p q check other legal =
    let first = legal before (Enroll c p check) (between ++ Enroll c q other ∷ after)
    (append_assoc before (Enroll c p check ∷ between) (Enroll c q other ∷ after)) in
    let second = legal (before ++ Enroll c p check ∷ between) (Enroll c q other) after refl in
    let counted = context_count-append before (Enroll c p check ∷ between) in
    absurd (omega (arith, first.0, second.0, counted))
