use Rattle.std.proofs.Common.{◌≡◌, length}
use Rattle.aes_ccm.specs.Bytes.{blocks}
use Rattle.aes_ccm.specs.Ccm.{cbc_mac}
use Rattle.aes_ccm.proofs.aes.Aes128.chained_all.Given as goal

abbrev pub invariant-chain : goal.invariant-chain
invariant-chain l = cbc_mac l.self l.mac (blocks l.rest) ≡ cbc_mac l.self l.initial.mac (blocks l.initial.rest)

abbrev pub decreases-chain : goal.decreases-chain
decreases-chain l = length l.rest
