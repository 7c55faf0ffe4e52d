use Rattle.std.proofs.Common.{inl, refl, arith}
use Rattle.coap_message.specs.Message.{packet_of}
use Rattle.join_proxy.proofs.Sending.{is_read, spelled_from, all_bytes, text_fits}
use Rattle.join_proxy.proofs.Proxies.{down_of}
use Rattle.join_proxy.proofs.proxy.Proxy.down.Goals as goal

pub back-requires-clause-read : goal.back-requires-clause-read
back-requires-clause-read c = is_read c.args.bytes.now (packet_of c.in-Ok.message) c.in-Ok.ensures.found c.requires

pub back-requires-clause-fits : goal.back-requires-clause-fits
back-requires-clause-fits c =
    let s = spelled_from c.args.bytes.now (packet_of c.in-Ok.message) (all_bytes c.args.bytes.now (λ i. omega (arith, c.type_inv.bytes i))) c.in-Ok.ensures.found in
    omega (arith, text_fits c.args.bytes.now (packet_of c.in-Ok.message) s, c.requires)

pub returns-in-Err : goal.returns-in-Err
returns-in-Err c = (inl (refl, λ m h. absurd (let bad = c.in-Err.ensures.spelled m h in cc)), refl, c.clear.ensures)

pub returns-in-Ok : goal.returns-in-Ok
returns-in-Ok c =
    let s = spelled_from c.args.bytes.now (packet_of c.in-Ok.message) (all_bytes c.args.bytes.now (λ i. omega (arith, c.type_inv.bytes i))) c.in-Ok.ensures.found in
    down_of c.args.self.now c.back.new.self c.args.bytes.now c.args.now c.back.new.out.items (packet_of c.in-Ok.message) c.in-Ok.ensures.found s c.back.result
    c.back.ensures.ok c.back.ensures.fault c.back.ensures.err
