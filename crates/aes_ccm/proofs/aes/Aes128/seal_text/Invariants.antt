use Rattle.aes_ccm.proofs.ProgressLemmas.{IsSealing}
use Rattle.aes_ccm.proofs.aes.Aes128.seal_text.Given as goal

abbrev pub invariant-turns : goal.invariant-turns
invariant-turns l = IsSealing l.self l.nonce l.initial.text l.initial.mac l.mac l.text l.i
