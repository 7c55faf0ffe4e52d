use Rattle.aes_ccm.specs.Bytes.{xor}
use Rattle.aes_ccm.specs.State.{sub_bytes, shift_rows, mix_columns, mix_column, add_round_key}
use Rattle.aes_ccm.specs.Cipher.{full_round}
use Rattle.aes_ccm.proofs.WordBytes.{append-four}
use Rattle.aes_ccm.proofs.rounds.full_round.Goals as goal

pub returns : goal.returns
unfolding xor sub_bytes shift_rows mix_column mix_columns add_round_key full_round
returns c = append-four _ _ _ _ _ _ _ _
    c.mixed_column.ensures c.mixed_column-2.ensures c.mixed_column-3.ensures c.mixed_column-4.ensures
