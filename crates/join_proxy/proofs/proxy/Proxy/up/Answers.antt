use Rattle.std.proofs.Common.{inl, refl}
use Rattle.coap_message.specs.Message.{packet_of}
use Rattle.join_proxy.proofs.Sending.{is_read}
use Rattle.join_proxy.proofs.proxy.Proxy.up.Goals as goal

pub forward-requires-clause-read : goal.forward-requires-clause-read
forward-requires-clause-read c = is_read c.args.bytes.now (packet_of c.in-Ok.message) c.in-Ok.ensures.found c.requires

pub returns-in-Err-clause-fault : goal.returns-in-Err-clause-fault
returns-in-Err-clause-fault c = inl (refl, λ m h. absurd (let bad = c.in-Err.ensures.spelled m h in cc))
