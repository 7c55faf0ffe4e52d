use Rattle.std.proofs.Common.{◌≡◌, ◌∙◌, List, ℕ, length, ap, sym, subst, arith, false}
use Rattle.coap_message.specs.Message.{Packet, packet_of}
use Rattle.proxy_token.specs.Token.{IsToken}
use Rattle.proxy_token.proofs.Tokens.{token_len}
use Rattle.join_proxy.specs.Pieces.{returned, text_of}
use Rattle.join_proxy.specs.State.{Proxying}
use Rattle.join_proxy.proofs.Sending.{is_written}
use Rattle.join_proxy.proofs.proxy.Proxy.back.Goals as goal

pub answer-requires-clause-token : goal.answer-requires-clause-token
answer-requires-clause-token c =
    let a = c.in-Ok.ensures.answer in
    omega (arith, token_len c.self.inside.sealer.key c.args.message.now.token.now a.0 a.1, ap length a.4, ap length c.as_slice.ensures.value)

pub returns-in-Ok-clause-ok : goal.returns-in-Ok-clause-ok
returns-in-Ok-clause-ok c =
    let a = c.in-Ok.ensures.answer in
    let m : Packet = packet_of c.args.message.now in
    let mid : ℕ = c.args.self.now.mid in
    let same : c.as_slice.result.now ≡ a.0.token = c.as_slice.ensures.value ∙ sym a.4 in
    let out : c.answer.new.out.items ≡ text_of (returned mid a.0.token m) = c.answer.ensures.out ∙ ap (λ (t : List ℕ). text_of (returned mid t m)) same in
    record {
      client = a.0;
      is_changed = c.if-message-ne-CHANGED.false;
      is_token = subst (λ (k : List ℕ). IsToken k c.args.message.now.token.now a.0) (ap (λ (s : Proxying). s.sealing.key) c.self.view_is) a.1;
      in_time = a.2;
      to = sym a.3;
      out_is = out;
      is_sent = is_written m false mid a.0.token c.answer.new.out.items c.requires.read (omega (arith, a.1.token)) out;
      after = c.answer.ensures.after;
    }
