use Rattle.std.proofs.Common.{refl, arith, ap, ◌∙◌, ◌*◌, ◌-◌, take, drop}
use Rattle.std.proofs.lemmas.List.{length-drop}
use Rattle.aes_ccm.specs.Bytes.{xor}
use Rattle.aes_ccm.specs.Cipher.{encrypted}
use Rattle.aes_ccm.specs.Ccm.{key_block}
use Rattle.aes_ccm.proofs.ProgressLemmas.{opening-first, opening-next, opening-last}
use Rattle.aes_ccm.proofs.aes.Aes128.open_text.Goals as goal

pub turns-init : goal.turns-init
turns-init c = opening-first c.args.self.now c.args.nonce.now c.args.text.now c.args.mac

pub turns-preserved : goal.turns-preserved
unfolding key_block
turns-preserved c = opening-next c.args.self.now c.args.nonce.now c.args.text.now c.args.mac c.turns.mac c.turns.text
    c.open_block-next.result c.open_block-next.new.text _ c.turns.i (c.min-end.result - 16 * c.turns.i)
    (omega arith) (omega (arith, length-drop (16 * c.turns.i) c.turns.text)) c.turns.invariant
    c.open_block-next.ensures.mac
    (c.open_block-next.ensures.text
    ∙ ap (λ block. xor (take (c.min-end.result - 16 * c.turns.i) (drop (16 * c.turns.i) c.turns.text)) (encrypted c.args.self.now block))
    c.counter_block-counter.ensures)
    refl

pub returns-clause-mac : goal.returns-clause-mac
returns-clause-mac c = (opening-last c.args.self.now c.args.nonce.now c.args.text.now c.args.mac c.turns.mac c.turns.text c.turns.i
    (omega arith) c.turns.invariant).0

pub returns-clause-text : goal.returns-clause-text
returns-clause-text c = (opening-last c.args.self.now c.args.nonce.now c.args.text.now c.args.mac c.turns.mac c.turns.text c.turns.i
    (omega arith) c.turns.invariant).1
