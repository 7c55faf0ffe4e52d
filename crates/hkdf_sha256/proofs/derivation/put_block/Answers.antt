use Rattle.hkdf_sha256.proofs.OutputLemmas.{block_written}
use Rattle.hkdf_sha256.proofs.derivation.put_block.Goals as goal

pub returns : goal.returns
returns c =
    rw c.copy_from_slice.ensures.after
    (block_written c.args.output.now c.args.block.now c.args.start c.min-end.result c.told-block c.requires c.min-end.ensures)
