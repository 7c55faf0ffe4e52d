use Rattle.oscore_context.proofs.Nonces.{one_id_and_number}
use Rattle.oscore_context.proofs.laws.nonce_law.Goals as goal

pub returns : goal.returns
returns c = one_id_and_number
