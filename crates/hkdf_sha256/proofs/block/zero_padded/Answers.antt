use Rattle.hkdf_sha256.proofs.BlockLemmas.{zeros_behind}
use Rattle.hkdf_sha256.proofs.block.zero_padded.Goals as goal

pub returns : goal.returns
returns c = rw c.copy_from_slice.ensures.after (zeros_behind c.args.bytes.now 64)
