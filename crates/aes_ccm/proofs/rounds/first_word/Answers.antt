use Rattle.std.proofs.Common.{arith}
use Rattle.aes_ccm.proofs.TableRules.{FIRST-at}
use Rattle.aes_ccm.proofs.rounds.first_word.Goals as goal

pub returns : goal.returns
returns c = FIRST-at c.args.byte (omega arith)
