use Rattle.aes_ccm.specs.Bytes.{xor}
use Rattle.aes_ccm.specs.State.{sub_bytes, shift_rows, add_round_key}
use Rattle.aes_ccm.specs.Cipher.{last_round}
use Rattle.aes_ccm.proofs.WordBytes.{append-four}
use Rattle.aes_ccm.proofs.rounds.last_round.Goals as goal

pub returns : goal.returns
unfolding xor sub_bytes shift_rows add_round_key last_round
returns c = append-four _ _ _ _ _ _ _ _
    c.last_column.ensures c.last_column-2.ensures c.last_column-3.ensures c.last_column-4.ensures
