-- Each law of opening, by its lemma.
use Rattle.join_history.proofs.OpeningLemmas.{opened_rows, opening_again}
use Rattle.join_history.proofs.laws.opening_laws.Goals as goal

pub returns-clause-rows_are_enrolled : goal.returns-clause-rows_are_enrolled
returns-clause-rows_are_enrolled c = opened_rows

pub returns-clause-opening_again_adds_nothing : goal.returns-clause-opening_again_adds_nothing
returns-clause-opening_again_adds_nothing c = opening_again
