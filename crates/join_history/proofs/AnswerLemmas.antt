-- Lemmas about the answers of decisions.
use Rattle.std.proofs.Common.{◌≡◌, ℕ, List, ◌∷◌, ◌++◌, sym, ap, ◌∙◌, subst}
use Rattle.journal_text.specs.declared.entry.Entry.{Entry}
use Rattle.join_history.specs.Leases.{current_settings}
use Rattle.join_history.specs.Decisions.{IsDecision}
use Rattle.join_history.specs.Legal.{IsLegal}
use Rattle.join_history.specs.Answers.{answer_after, IsAnswer}
use Rattle.join_history.proofs.ListLemmas.{middle_append, Same, Left, Right, two_places}
use Rattle.join_history.proofs.DecisionLemmas.{one_decision}

-- an answer stays, whatever follows
pub answer_stays : (h more : List Entry) (c n : ℕ) (bytes : List ℕ) → IsAnswer h c n bytes
    → IsAnswer (h ++ more) c n bytes
answer_stays h more c n bytes answer = record {
  before = answer.before;
  decision = answer.decision;
  after = answer.after ++ more;
  place = middle_append h answer.before answer.after more answer.decision answer.place;
  decides = answer.decides;
  is_answer = answer.is_answer;
}

-- a later decision of a legal history has another context or number
two_decisions : (h before between after : List Entry) (e f : Entry) (c n : ℕ) → IsLegal h
    → h ≡ (before ++ e ∷ between) ++ f ∷ after → IsDecision c n e → IsDecision c n f → ⊥
two_decisions h before between after e f c n legal is decides decides' =
    one_decision before between after e f c n (subst IsLegal is legal) decides decides'

-- a context and a number have one answer
pub one_answer : (h : List Entry) (c n : ℕ) (bytes other : List ℕ) → IsLegal h → IsAnswer h c n bytes
    → IsAnswer h c n other → bytes ≡ other
one_answer h c n bytes other legal a b =
    elim (two_places a.before a.after b.before b.after a.decision b.decision (sym a.place ∙ b.place)) [
      | Same before decision ↦
          a.is_answer ∙ (λ i. answer_after (before i) (current_settings (before i)) (decision i)) ∙ sym b.is_answer
      | Left between is ↦ absurd (two_decisions h a.before between b.after a.decision b.decision c n legal
          (b.place ∙ ap (λ l. l ++ b.decision ∷ b.after) is) a.decides b.decides)
      | Right between is ↦ absurd (two_decisions h b.before between a.after b.decision a.decision c n legal
          (a.place ∙ ap (λ l. l ++ a.decision ∷ a.after) is) b.decides a.decides)
    ]
