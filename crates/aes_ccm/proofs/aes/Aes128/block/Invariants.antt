use Rattle.std.proofs.Common.{◌≡◌, ◌-◌}
use Rattle.aes_ccm.specs.Cipher.{rounds}
use Rattle.aes_ccm.specs.Words.{state_of}
use Rattle.aes_ccm.proofs.aes.Aes128.block.Given as goal

abbrev pub invariant-rounds : goal.invariant-rounds
invariant-rounds l = state_of l.state ≡ rounds l.self l.input (l.round - 1)
