use Rattle.std.proofs.Common.{◌≡◌}
use Rattle.oscore_context.specs.Context.{side_keys}
use Rattle.oscore_context.proofs.Contexts.{known_is}
use Rattle.oscore_context.proofs.context.Context.derive.Goals as goal

pub returns : goal.returns
returns c =
    let keys : c.derive_keys-keys.result ≡ side_keys c.args.psk.now c.args.id c.args.side = cc in
    known_is c.args.psk.now c.args.id c.args.side c.derive_keys-keys.result c.check_of-check.result keys c.check_of-check.ensures
