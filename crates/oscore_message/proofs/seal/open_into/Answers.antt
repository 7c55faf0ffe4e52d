use Rattle.oscore_message.proofs.Sealings.{not_short}
use Rattle.oscore_message.proofs.seal.open_into.Goals as goal

pub returns-then-sealing-le-TAG-clause-genuine : goal.returns-then-sealing-le-TAG-clause-genuine
returns-then-sealing-le-TAG-clause-genuine c = λ plain some e.
    absurd (not_short c.args.key.now c.args.nonce.now c.args.aad.now c.args.sealing.now plain c.if-sealing-le-TAG.true some e)
