use Rattle.std.proofs.Common.{◌∙◌, sym, subst}
use Rattle.coap_message.specs.Message.{inner_packet_of}
use Rattle.coap_message.proofs.MessageLemmas.{IsReadInner, inner_found, inner_again, inner_fault_again, ok_seen, err_seen, fault_seen}
use Rattle.coap_message.proofs.reading.parse_inner.Goals as goal

pub returns-clause-found : goal.returns-clause-found
returns-clause-found c =
    let bytes = c.args.bytes.now in
    let read = subst (IsReadInner bytes) (sym c.read_inner.ensures) (inner_found bytes) in
    ok_seen inner_packet_of (IsReadInner bytes) c.read_inner.result read

pub returns-clause-spelled : goal.returns-clause-spelled
returns-clause-spelled c = λ m is. c.read_inner.ensures ∙ inner_again c.args.bytes.now m is

pub returns-clause-fault : goal.returns-clause-fault
returns-clause-fault c =
    let bytes = c.args.bytes.now in
    let read = subst (IsReadInner bytes) (sym c.read_inner.ensures) (inner_found bytes) in
    err_seen inner_packet_of (IsReadInner bytes) c.read_inner.result read

pub returns-clause-first_fault : goal.returns-clause-first_fault
returns-clause-first_fault c =
    λ e is. fault_seen inner_packet_of c.read_inner.result e (c.read_inner.ensures ∙ inner_fault_again e c.args.bytes.now is)
