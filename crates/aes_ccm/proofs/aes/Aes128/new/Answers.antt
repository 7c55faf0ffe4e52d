use Rattle.std.proofs.Common.{refl, arith, ap, ◌∙◌, sym}
use Rattle.aes_ccm.specs.Cipher.{round_key}
use Rattle.aes_ccm.proofs.KeyLemmas.{expanded_first, expanded_more}
use Rattle.aes_ccm.proofs.aes.Aes128.new.Goals as goal

pub expand-init : goal.expand-init
expand-init c = expanded_first c.words_of.result _ _ refl c.words_of.ensures

pub expand-preserved : goal.expand-preserved
expand-preserved c = expanded_more c.expand.round_keys c.args.key.now c.next_round_key.result c.expand.round _ (omega arith)
    c.expand.invariant c.next_round_key.ensures c.round_constant.ensures

pub invariant_of-result : goal.invariant_of-result
unfolding round_key
invariant_of-result c n lt =
    let first = c.expand.invariant.each 0 (omega arith) in
    c.expand.invariant.each n (omega arith) ∙ ap (λ k. round_key k n) (sym first)

pub returns : goal.returns
unfolding round_key
returns c = c.expand.invariant.each 0 (omega arith)
