use Rattle.oscore_message.proofs.BothSides.{request_opens, answer_opens}
use Rattle.oscore_message.proofs.laws.oscore_laws.Goals as goal

pub returns-clause-request : goal.returns-clause-request
returns-clause-request c = request_opens

pub returns-clause-answer : goal.returns-clause-answer
returns-clause-answer c = answer_opens
