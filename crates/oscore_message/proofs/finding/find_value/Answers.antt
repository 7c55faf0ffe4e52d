use Rattle.oscore_message.proofs.Findings.{fault_only}
use Rattle.oscore_message.proofs.finding.find_value.Goals as goal

pub returns-in-Err : goal.returns-in-Err
returns-in-Err c = λ kid m is. fault_only c.args.bytes.now c.in-Err.field-0 c.in-Err.ensures.fault m is
