use Rattle.std.proofs.Common.{true, refl, ◌+◌, length}
use Rattle.coap_message.specs.Message.{packet_of}
use Rattle.join_proxy.proofs.Sending.{need_from}
use Rattle.join_proxy.proofs.message.need_of.Goals as goal

pub options_len-requires : goal.options_len-requires
options_len-requires c = c.requires.few true

pub returns : goal.returns
returns c =
    let n = need_from (packet_of c.args.message.now) (39 + length c.args.message.now.token.now) refl in
    rw (c.extension_len.ensures.value, c.options_len.ensures, c.payload_len.ensures) n
