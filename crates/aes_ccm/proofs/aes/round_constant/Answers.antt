use Rattle.aes_ccm.proofs.TableRules.{ROUND_CONSTANTS-at}
use Rattle.aes_ccm.proofs.aes.round_constant.Goals as goal

pub returns : goal.returns
returns c = ROUND_CONSTANTS-at c.args.round c.requires
