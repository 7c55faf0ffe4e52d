use Rattle.std.proofs.Common.{◌∷◌, ◌++◌, length, ap, ◌∙◌}
use Rattle.aes_ccm.specs.Bytes.{two_bytes}
use Rattle.aes_ccm.proofs.BytesLemmas.{none_from, some_from}
use Rattle.aes_ccm.proofs.AadLemmas.{first_block-bare, first_block-aad}
use Rattle.aes_ccm.proofs.blocks.first_block.Goals as goal
use Rattle.aes_ccm.proofs.blocks.first_block.Goals.{then-is_empty, else-is_empty}

pub returns : goal.returns
returns c = c.block_of.ensures ∙ elim c.if-is_empty.branch [
  | then-is_empty w ↦ ap (λ flags. flags ∷ c.args.nonce.now ++ two_bytes c.args.len) w.flags-is
      ∙ first_block-bare c.args.nonce.now c.args.aad.now c.args.len (none_from (length c.args.aad.now) _ c.is_empty.ensures w.if-is_empty.true)
  | else-is_empty w ↦ ap (λ flags. flags ∷ c.args.nonce.now ++ two_bytes c.args.len) w.flags-is
      ∙ first_block-aad c.args.nonce.now c.args.aad.now c.args.len (some_from (length c.args.aad.now) _ c.is_empty.ensures w.if-is_empty.false)
]
