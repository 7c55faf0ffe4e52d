use Rattle.replay_window.proofs.BitLemmas.{set_bit}
use Rattle.replay_window.proofs.bits.mark.Goals as goal

pub returns : goal.returns
returns c = set_bit c.args.bits c.args.place c.requires
