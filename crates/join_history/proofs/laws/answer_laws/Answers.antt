-- Each law of answers, by its lemma.
use Rattle.join_history.proofs.AnswerLemmas.{answer_stays, one_answer}
use Rattle.join_history.proofs.ConfigurationLemmas.{grant_answer_fits}
use Rattle.join_history.proofs.laws.answer_laws.Goals as goal

pub returns-clause-answer_stays : goal.returns-clause-answer_stays
returns-clause-answer_stays c = answer_stays

pub returns-clause-one_answer : goal.returns-clause-one_answer
returns-clause-one_answer c = one_answer

pub returns-clause-grant_answer_fits : goal.returns-clause-grant_answer_fits
returns-clause-grant_answer_fits c = grant_answer_fits
