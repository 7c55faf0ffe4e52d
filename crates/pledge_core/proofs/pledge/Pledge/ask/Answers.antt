use Rattle.std.proofs.Common.{length, ap, ◌∙◌, sym, arith}
use Rattle.edge_traits.specs.declared.names.PledgeId.{PledgeId}
use Rattle.coap_message.specs.Header.{Header}
use Rattle.coap_message.specs.declared.header.Kind.TheVariants.{Con}
use Rattle.pledge_core.proofs.Requests.{request_fits}
use Rattle.pledge_core.proofs.pledge.Pledge.ask.Goals as goal

pub unreachable-requires : goal.unreachable-requires
unreachable-requires c =
    let h : Header = record { kind = Con; code = 2; mid = c.args.mid; token = c.to_be_bytes-token.result } in
    let bad = c.in-Err.ensures.fits.1 (request_fits c.self.inside.context c.self.inside.next c.deref.result.now h c.self.invariant.0
    (sym (ap (λ (i : PledgeId). length i.0) c.id.ensures) ∙ c.length_of.ensures.length)
    (omega (arith, ap length c.to_be_bytes-token.ensures)) (omega (arith, c.deref.ensures.1))) in
    cc
