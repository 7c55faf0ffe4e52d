use Rattle.std.proofs.Common.{arith}
use Rattle.aes_ccm.proofs.TableRules.{THIRD-at}
use Rattle.aes_ccm.proofs.rounds.third_word.Goals as goal

pub returns : goal.returns
returns c = THIRD-at c.args.byte (omega arith)
