use Rattle.std.proofs.Common.{Ok, subst, sym, ap, ◌∙◌}
use Rattle.edge_traits.specs.declared.names.PledgeId.{PledgeId}
use Rattle.oscore_context.specs.Context.{Known}
use Rattle.oscore_message.specs.Finding.{Request, request_of}
use Rattle.oscore_message.specs.Sealing.{IsRequestPlaintext}
use Rattle.pledge_core.specs.Session.{Session}
use Rattle.pledge_core.specs.Updating.{Names}
use Rattle.pledge_core.proofs.Updates.{ok_is}
use Rattle.pledge_core.proofs.pledge.Pledge.open_update.Goals as goal

pub returns-in-Err : goal.returns-in-Err
returns-in-Err c = λ r is. let e = c.in-Err.ensures.only (Ok r) is.found in cc

pub returns-then-not-is_named : goal.returns-then-not-is_named
returns-then-not-is_named c = λ r is.
    let e = ok_is _ r (c.in-Ok.ensures.only (Ok r) is.found) in
    let N : Request → Type 0 = λ q. Names c.args.self.now.context.id q.fields.context in
    let I : PledgeId → Type 0 = λ i. Names i (request_of c.in-Ok.found).fields.context in
    let t = c.is_named.ensures.1 (subst I (sym (c.id.ensures ∙ ap (λ (s : Session). s.context.id) c.self.view_is)) (subst N (sym e) is.names)) in
    cc

pub returns-in-Err-open_request : goal.returns-in-Err-open_request
returns-in-Err-open_request c = λ r is.
    let e = ok_is _ r (c.in-Ok.ensures.only (Ok r) is.found) in
    let S : Request → Type 0 = λ q. IsRequestPlaintext c.args.self.now.context q.number q.packet.payload is.plain in
    let K : Known → Type 0 = λ k. IsRequestPlaintext k c.in-Ok.found.number c.in-Ok.found.message.payload.now is.plain in
    let g = c.in-Err-open_request.ensures.genuine is.plain (subst K (sym (ap (λ (s : Session). s.context) c.self.view_is)) (subst S (sym e) is.sealed_is)) in
    let h = g.0 in
    cc
