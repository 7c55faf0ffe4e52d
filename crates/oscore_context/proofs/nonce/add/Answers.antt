use Rattle.std.proofs.Common.{arith, ◌∙◌, sym}
use Rattle.std.proofs.lemmas.Grind.{same_number_lists}
use Rattle.aes_ccm.specs.Bytes.{xor}
use Rattle.aes_ccm.proofs.BytesLemmas.{length-xor_first, get_or-xor}
use Rattle.oscore_context.proofs.nonce.add.Goals as goal

pub returns : goal.returns
returns c =
    let len = length-xor_first c.args.text.now c.args.mask.now (omega arith) in
    same_number_lists c.bytes.text (xor c.args.text.now c.args.mask.now) (omega arith)
    (λ k h. c.bytes.invariant.done k (omega arith) ∙ sym (get_or-xor c.args.text.now c.args.mask.now k (omega arith) (omega arith)))
