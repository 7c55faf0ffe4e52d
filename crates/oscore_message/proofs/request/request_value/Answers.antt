use Rattle.std.proofs.Common.{length, ap, arith}
use Rattle.std.specs.Option.{option_map}
use Rattle.oscore_message.proofs.OptionValues.{request_length}
use Rattle.oscore_message.proofs.Wires.{id_few, context_few}
use Rattle.oscore_message.proofs.request.request_value.Goals as goal

pub returns-clause-few : goal.returns-clause-few
returns-clause-few c =
    let kid = id_few c.side-side.result in
    omega (
      arith,
      ap length c.in-Ok.ensures.ok,
      request_length c.args.number (option_map (λ x. x.now) c.kid_context.result) c.id.result.now
          (context_few c.kid_context.result c.kid_context.ensures.few) (omega (arith, ap length c.id.ensures, kid)),
    )

pub unreachable-requires : goal.unreachable-requires
unreachable-requires c =
    let kid = id_few c.side-side.result in
    let few = request_length c.args.number (option_map (λ x. x.now) c.kid_context.result) c.id.result.now
    (context_few c.kid_context.result c.kid_context.ensures.few) (omega (arith, ap length c.id.ensures, kid)) in
    let bad = c.in-Err.ensures.fits.1 (omega (arith, few)) in
    cc
