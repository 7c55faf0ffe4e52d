use Rattle.std.proofs.Common.{slice_index}
use Rattle.aes_ccm.specs.Bytes.{xor}
use Rattle.aes_ccm.specs.State.{add_round_key}
use Rattle.aes_ccm.proofs.WordBytes.{to_be_bytes-xor, append-four}
use Rattle.aes_ccm.proofs.rounds.add_round_key.Goals as goal

pub returns : goal.returns
unfolding xor add_round_key
returns c = append-four _ _ _ _ _ _ _ _
    (to_be_bytes-xor (slice_index c.args.state 0) (slice_index c.args.key.now 0))
    (to_be_bytes-xor (slice_index c.args.state 1) (slice_index c.args.key.now 1))
    (to_be_bytes-xor (slice_index c.args.state 2) (slice_index c.args.key.now 2))
    (to_be_bytes-xor (slice_index c.args.state 3) (slice_index c.args.key.now 3))
