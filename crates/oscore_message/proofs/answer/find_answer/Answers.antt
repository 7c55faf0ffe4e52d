use Rattle.oscore_message.proofs.Findings.{fault_only}
use Rattle.oscore_message.proofs.answer.find_answer.Goals as goal

pub returns-in-Err : goal.returns-in-Err
returns-in-Err c = λ known n m is. fault_only c.args.bytes.now c.in-Err.field-0 c.in-Err.ensures.fault m is
