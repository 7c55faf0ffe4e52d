-- Each short history, by its lemma.
use Rattle.worked_histories.proofs.Worked as worked
use Rattle.worked_histories.proofs.Summarized.{has_its_summary}
use Rattle.worked_histories.proofs.laws.worked_histories.Goals as goal

pub returns-clause-openings : goal.returns-clause-openings
returns-clause-openings c = worked.openings

pub returns-clause-dues : goal.returns-clause-dues
returns-clause-dues c = worked.dues

pub returns-clause-moments : goal.returns-clause-moments
returns-clause-moments c = worked.moments

pub returns-clause-answers : goal.returns-clause-answers
returns-clause-answers c = worked.more_answers

pub returns-clause-keys : goal.returns-clause-keys
returns-clause-keys c = worked.more_keys c.history_examples.ensures.updates c.history_examples.ensures.answered

pub returns-clause-releases : goal.returns-clause-releases
returns-clause-releases c = worked.more_releases c.history_examples.ensures.address_is_held

pub returns-clause-summary : goal.returns-clause-summary
returns-clause-summary c = has_its_summary
