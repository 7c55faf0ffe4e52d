use Rattle.std.proofs.Common.{refl, arith, ap, ◌∙◌, ◌*◌, ◌-◌, take, drop}
use Rattle.std.proofs.lemmas.List.{length-drop}
use Rattle.aes_ccm.specs.Bytes.{xor}
use Rattle.aes_ccm.specs.Cipher.{encrypted}
use Rattle.aes_ccm.specs.Ccm.{key_block}
use Rattle.aes_ccm.proofs.ProgressLemmas.{sealing-first, sealing-next, sealing-last}
use Rattle.aes_ccm.proofs.aes.Aes128.seal_text.Goals as goal

pub turns-init : goal.turns-init
turns-init c = sealing-first c.args.self.now c.args.nonce.now c.args.text.now c.args.mac

pub turns-preserved : goal.turns-preserved
unfolding key_block
turns-preserved c = sealing-next c.args.self.now c.args.nonce.now c.args.text.now c.args.mac c.turns.mac c.turns.text
    c.seal_block-next.result c.seal_block-next.new.text _ c.turns.i (c.min-end.result - 16 * c.turns.i)
    (omega arith) (omega (arith, length-drop (16 * c.turns.i) c.turns.text)) c.turns.invariant
    c.seal_block-next.ensures.mac
    (c.seal_block-next.ensures.text
    ∙ ap (λ block. xor (take (c.min-end.result - 16 * c.turns.i) (drop (16 * c.turns.i) c.turns.text)) (encrypted c.args.self.now block))
    c.counter_block-counter.ensures)
    refl

pub returns-clause-mac : goal.returns-clause-mac
returns-clause-mac c = (sealing-last c.args.self.now c.args.nonce.now c.args.text.now c.args.mac c.turns.mac c.turns.text c.turns.i
    (omega arith) c.turns.invariant).0

pub returns-clause-text : goal.returns-clause-text
returns-clause-text c = (sealing-last c.args.self.now c.args.nonce.now c.args.text.now c.args.mac c.turns.mac c.turns.text c.turns.i
    (omega arith) c.turns.invariant).1
