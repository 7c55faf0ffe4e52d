use Rattle.std.proofs.Common.{slice_index}
use Rattle.aes_ccm.proofs.WordBytes.{state_of-next}
use Rattle.aes_ccm.proofs.rounds.next_round_key.Goals as goal

pub returns : goal.returns
returns c = state_of-next (slice_index c.args.key.now 0) (slice_index c.args.key.now 1)
    (slice_index c.args.key.now 2) (slice_index c.args.key.now 3) c.turned_word.result c.args.constant c.turned_word.ensures
