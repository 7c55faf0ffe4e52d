use Rattle.aes_ccm.proofs.ProgressLemmas.{IsOpening}
use Rattle.aes_ccm.proofs.aes.Aes128.open_text.Given as goal

abbrev pub invariant-turns : goal.invariant-turns
invariant-turns l = IsOpening l.self l.nonce l.initial.text l.initial.mac l.mac l.text l.i
