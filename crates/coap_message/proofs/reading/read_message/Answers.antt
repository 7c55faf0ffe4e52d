use Rattle.std.proofs.Common.{sym}
use Rattle.coap_message.specs.Header.{header_of}
use Rattle.coap_message.proofs.HeaderLemmas.{body_shorter}
use Rattle.coap_message.proofs.reading.read_message.Goals as goal

pub overflow_sub-bytes : goal.overflow_sub-bytes
overflow_sub-bytes c =
    body_shorter c.args.bytes.now (header_of c.in_ok-head.head) c.in_ok-head.rest.now (sym c.in_ok-head.ensures)
