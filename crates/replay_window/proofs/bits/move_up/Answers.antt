use Rattle.std.proofs.Common.{arith}
use Rattle.replay_window.proofs.BitLemmas.{shifted, all_shifted}
use Rattle.replay_window.proofs.bits.move_up.Goals as goal

pub returns-then-by-lt-SIZE : goal.returns-then-by-lt-SIZE
returns-then-by-lt-SIZE c = shifted c.args.bits c.args.by c.requires (omega arith)

pub returns-else-by-lt-SIZE : goal.returns-else-by-lt-SIZE
returns-else-by-lt-SIZE c = all_shifted c.args.bits c.args.by (omega arith)
