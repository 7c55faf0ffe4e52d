use Rattle.std.proofs.Common.{◌∙◌, sym, subst}
use Rattle.coap_message.specs.Message.{packet_of}
use Rattle.coap_message.proofs.MessageLemmas.{IsReadMessage, message_found, message_again, fault_again, ok_seen, err_seen, fault_seen}
use Rattle.coap_message.proofs.reading.parse.Goals as goal

pub returns-clause-found : goal.returns-clause-found
returns-clause-found c =
    let bytes = c.args.bytes.now in
    let read = subst (IsReadMessage bytes) (sym c.read_message.ensures) (message_found bytes) in
    ok_seen packet_of (IsReadMessage bytes) c.read_message.result read

pub returns-clause-spelled : goal.returns-clause-spelled
returns-clause-spelled c = λ m is. c.read_message.ensures ∙ message_again c.args.bytes.now m is

pub returns-clause-fault : goal.returns-clause-fault
returns-clause-fault c =
    let bytes = c.args.bytes.now in
    let read = subst (IsReadMessage bytes) (sym c.read_message.ensures) (message_found bytes) in
    err_seen packet_of (IsReadMessage bytes) c.read_message.result read

pub returns-clause-first_fault : goal.returns-clause-first_fault
returns-clause-first_fault c =
    λ e is. fault_seen packet_of c.read_message.result e (c.read_message.ensures ∙ fault_again e c.args.bytes.now is)
