use Rattle.std.proofs.Common.{arith}
use Rattle.coap_message.specs.Message.{packet_of}
use Rattle.join_proxy.proofs.Sending.{returned_fits}
use Rattle.join_proxy.proofs.proxy.Proxy.answer.Goals as goal

pub write_message-requires-clause-fits : goal.write_message-requires-clause-fits
write_message-requires-clause-fits c =
    omega (arith, returned_fits (packet_of c.args.message.now) c.next_mid-mid.result c.args.token.now c.requires.token, c.requires.fits)
