use Rattle.oscore_message.proofs.Answerings.{answer_only}
use Rattle.oscore_message.proofs.answer.open_answer.Goals as goal

pub returns-clause-only : goal.returns-clause-only
returns-clause-only c = λ r is.
    answer_only c.args.context.now c.args.number c.args.bytes.now _ r c.open_from.ensures.found is
