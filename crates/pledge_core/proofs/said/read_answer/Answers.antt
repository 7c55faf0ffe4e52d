use Rattle.std.proofs.Common.{ap, sym}
use Rattle.coap_message.proofs.MessageLemmas.{inner_again, inner_fault_again}
use Rattle.pledge_core.specs.Taking.{said_in}
use Rattle.pledge_core.proofs.Answers.{said_other, said_changed}
use Rattle.pledge_core.proofs.said.read_answer.Goals as goal

pub returns-in-Err : goal.returns-in-Err
returns-in-Err c = sym (ap said_in (inner_fault_again c.in-Err.field-0 c.args.plain.now c.in-Err.ensures.fault))

pub returns-then-inner-ne-CHANGED : goal.returns-then-inner-ne-CHANGED
returns-then-inner-ne-CHANGED c =
    said_other c.args.plain.now _ (inner_again c.args.plain.now _ c.in-Ok.ensures.found) c.if-inner-ne-CHANGED.true

pub returns-else-inner-ne-CHANGED : goal.returns-else-inner-ne-CHANGED
returns-else-inner-ne-CHANGED c =
    said_changed c.args.plain.now _ c.read_payload.result (inner_again c.args.plain.now _ c.in-Ok.ensures.found) c.if-inner-ne-CHANGED.false c.read_payload.ensures
