use Rattle.std.proofs.Common.{arith}
use Rattle.aes_ccm.proofs.TableRules.{SECOND-at}
use Rattle.aes_ccm.proofs.rounds.second_word.Goals as goal

pub returns : goal.returns
returns c = SECOND-at c.args.byte (omega arith)
