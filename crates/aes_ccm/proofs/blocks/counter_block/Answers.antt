use Rattle.aes_ccm.specs.Ccm.{counter_block}
use Rattle.aes_ccm.proofs.blocks.counter_block.Goals as goal

pub returns : goal.returns
unfolding counter_block
returns c = c.block_of.ensures
