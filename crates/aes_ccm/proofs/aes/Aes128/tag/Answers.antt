use Rattle.std.proofs.Common.{◌∙◌, ap, take}
use Rattle.aes_ccm.specs.Bytes.{xor}
use Rattle.aes_ccm.specs.Cipher.{encrypted}
use Rattle.aes_ccm.specs.Ccm.{key_block}
use Rattle.aes_ccm.proofs.aes.Aes128.tag.Goals as goal

pub returns : goal.returns
unfolding key_block
returns c = c.add.ensures
    ∙ ap (λ bytes. xor bytes c.block.result) c.copy_from_slice.ensures.after
    ∙ ap (xor (take 8 c.args.mac.now)) (c.block.ensures ∙ ap (encrypted c.args.self.now) c.counter_block.ensures)
