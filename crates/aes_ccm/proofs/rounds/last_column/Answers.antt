use Rattle.std.proofs.Common.{ap, slice_index}
use Rattle.aes_ccm.proofs.WordBytes.{to_be_bytes-from, to_be_bytes-xor}
use Rattle.aes_ccm.proofs.rounds.last_column.Goals as goal

pub returns : goal.returns
returns c =
    let a = ap (λ bytes. slice_index bytes 0) c.to_be_bytes.ensures in
    let b = ap (λ bytes. slice_index bytes 1) c.to_be_bytes-2.ensures in
    let e = ap (λ bytes. slice_index bytes 2) c.to_be_bytes-3.ensures in
    let f = ap (λ bytes. slice_index bytes 3) c.to_be_bytes-4.ensures in
    let word = to_be_bytes-from c.from_be_bytes.result c.substitute.result c.substitute-2.result
    c.substitute-3.result c.substitute-4.result
    c.substitute.type_inv c.substitute-2.type_inv c.substitute-3.type_inv c.substitute-4.type_inv
    c.from_be_bytes.ensures in
    let summed = to_be_bytes-xor c.from_be_bytes.result c.args.key in
    cc
