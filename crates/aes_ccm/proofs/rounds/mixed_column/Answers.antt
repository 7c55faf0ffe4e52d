use Rattle.std.proofs.Common.{ap, slice_index}
use Rattle.aes_ccm.proofs.WordBytes.{to_be_bytes-mixed}
use Rattle.aes_ccm.proofs.rounds.mixed_column.Goals as goal

pub returns : goal.returns
returns c = to_be_bytes-mixed _ _ _ _ c.args.key _ _ _ _ _ _ _ _
    c.first_word.ensures c.second_word.ensures c.third_word.ensures c.fourth_word.ensures
    (ap (λ bytes. slice_index bytes 0) c.to_be_bytes.ensures) (ap (λ bytes. slice_index bytes 1) c.to_be_bytes-2.ensures)
    (ap (λ bytes. slice_index bytes 2) c.to_be_bytes-3.ensures) (ap (λ bytes. slice_index bytes 3) c.to_be_bytes-4.ensures)
