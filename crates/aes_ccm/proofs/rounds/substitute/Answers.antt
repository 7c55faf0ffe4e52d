use Rattle.std.proofs.Common.{arith}
use Rattle.aes_ccm.proofs.TableRules.{SBOX-at}
use Rattle.aes_ccm.proofs.rounds.substitute.Goals as goal

pub returns : goal.returns
returns c = SBOX-at c.args.byte (omega arith)
