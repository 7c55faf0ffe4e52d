use Rattle.std.proofs.Common.{◌≡◌, ◌≤◌, ◌+◌, ◌∙◌, ℕ, List, Err, length, refl, sym, ap, subst, arith}
use Rattle.coap_message.specs.Message.{Packet, packet_of}
use Rattle.proxy_token.proofs.Tokens.{token_len}
use Rattle.join_proxy.specs.State.{Proxying}
use Rattle.join_proxy.specs.Steps.{IsSentOn}
use Rattle.join_proxy.specs.Tokens.{tokens_at}
use Rattle.join_proxy.proofs.Sending.{need_is}
use Rattle.join_proxy.proofs.Proxies.{no_seal_fault, sent_on}
use Rattle.join_proxy.proofs.proxy.Proxy.send.Goals as goal

pub unreachable-requires : goal.unreachable-requires
unreachable-requires c =
    no_seal_fault (Err c.in-Err.field-0) c.in-Err.field-0 (length c.args.message.now.token.now) c.self.inside.sealer.count refl c.in-Err.ensures.too_long c.in-Err.ensures.spent
    c.requires.fits.0 (λ e. c.requires.left (sym (ap (λ (s : Proxying). s.sealing.count) c.self.view_is) ∙ e))

pub write_message-requires-clause-fits : goal.write_message-requires-clause-fits
write_message-requires-clause-fits c =
    let m : Packet = packet_of c.args.message.now in
    let len : length c.as_slice.result.now ≡ 39 + length m.header.token =
    ap length c.as_slice.ensures.value ∙ token_len c.self.inside.sealer.key c.seal.new.out.items _ c.in-Ok.ensures.ok in
    omega (arith, need_is m c.as_slice.result.now c.next_mid-mid.result len, c.requires.fits.1)

pub returns : goal.returns
returns c =
    let m : Packet = packet_of c.args.message.now in
    let old : Proxying = record { sealing = c.self.inside.sealer; bucket = c.self.inside.bucket; mid = c.self.inside.mid } in
    let new : Proxying = c.next_mid-mid.new.self in
    let out : List ℕ = c.write_message.new.out.items in
    let enough : c.args.size ≤ tokens_at c.self.inside.bucket c.args.now =
    subst (λ (s : Proxying). c.args.size ≤ tokens_at s.bucket c.args.now) (sym c.self.view_is) c.requires.enough in
    subst (λ (s : Proxying). IsSentOn s new c.args.peer m c.args.size c.args.now out) c.self.view_is
    (sent_on old new c.seal.new.self c.after-self-inside.result c.args.peer m c.args.size c.args.now c.next_mid-mid.result c.seal.new.out.items c.as_slice.result.now out
    c.requires.read c.requires.request c.requires.fits enough c.in-Ok.ensures.ok c.as_slice.ensures.value c.next_mid-mid.ensures.mid c.write_message.ensures
    c.in-Ok.ensures.counted c.after-self-inside.ensures c.next_mid-mid.ensures.after)
