use Rattle.aes_ccm.proofs.KeyLemmas.{IsExpandedTo}
use Rattle.aes_ccm.proofs.aes.Aes128.new.Given as goal

abbrev pub invariant-expand : goal.invariant-expand
invariant-expand l = IsExpandedTo l.round_keys l.key l.round
