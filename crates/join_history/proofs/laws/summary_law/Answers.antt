-- Each law of summaries, by its lemma.
use Rattle.join_history.proofs.TwinLemmas.{Twins}
use Rattle.join_history.proofs.AlikeLemmas.{answer_alike}
use Rattle.join_history.proofs.NextLemmas.{next}
use Rattle.join_history.proofs.NextNodeLemmas.{next_summary}
use Rattle.join_history.proofs.OneSummaryLemmas.{one_summary}
use Rattle.join_history.proofs.laws.summary_law.Goals as goal

pub returns-clause-fixes_answers : goal.returns-clause-fixes_answers
returns-clause-fixes_answers c = λ h g s legal legal_other is is_other.
    answer_alike h g (record { summary = s; legal = legal; legal_other = legal_other; is = is; is_other = is_other })

pub returns-clause-fixes_next : goal.returns-clause-fixes_next
returns-clause-fixes_next c = λ h g e s after legal legal_other may is is_other is_next.
    let twins : Twins h g = record { summary = s; legal = legal; legal_other = legal_other; is = is; is_other = is_other } in
    next_summary h g e after (next h g e twins may) is_next

pub returns-clause-one_summary : goal.returns-clause-one_summary
returns-clause-one_summary c = one_summary
