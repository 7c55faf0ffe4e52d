-- Each law of a pledge and the registrar, by its lemma.
use Rattle.pledge_core.proofs.Joins.{answer_is_taken, joined_is_own}
use Rattle.pledge_core.proofs.laws.join_laws.Goals as goal

pub returns-clause-answer_is_taken : goal.returns-clause-answer_is_taken
returns-clause-answer_is_taken c = answer_is_taken

pub returns-clause-joined_is_own : goal.returns-clause-joined_is_own
returns-clause-joined_is_own c = joined_is_own
