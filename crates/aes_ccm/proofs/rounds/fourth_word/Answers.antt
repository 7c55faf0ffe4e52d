use Rattle.std.proofs.Common.{arith}
use Rattle.aes_ccm.proofs.TableRules.{FOURTH-at}
use Rattle.aes_ccm.proofs.rounds.fourth_word.Goals as goal

pub returns : goal.returns
returns c = FOURTH-at c.args.byte (omega arith)
