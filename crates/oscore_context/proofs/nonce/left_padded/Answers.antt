use Rattle.std.proofs.Common.{length, refl}
use Rattle.oscore_context.proofs.Nonces.{written_last}
use Rattle.oscore_context.proofs.nonce.left_padded.Goals as goal

pub returns : goal.returns
returns c = written_last c.args.id.now c.copy_from_slice.new.self (length c.args.id.now) c.copy_from_slice.ensures.after refl c.requires
