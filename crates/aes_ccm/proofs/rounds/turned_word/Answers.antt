use Rattle.std.proofs.Common.{arith, ap, slice_index, bit_xor}
use Rattle.std.proofs.lemmas.Nat.{xor_of_8}
use Rattle.aes_ccm.specs.Cipher.{turned_word}
use Rattle.aes_ccm.proofs.WordBytes.{to_be_bytes-from}
use Rattle.aes_ccm.proofs.rounds.turned_word.Goals as goal

pub returns : goal.returns
unfolding turned_word
returns c =
    let b = ap (λ bytes. slice_index bytes 1) c.to_be_bytes.ensures in
    let e = ap (λ bytes. slice_index bytes 2) c.to_be_bytes.ensures in
    let f = ap (λ bytes. slice_index bytes 3) c.to_be_bytes.ensures in
    let a = ap (λ bytes. slice_index bytes 0) c.to_be_bytes.ensures in
    let word = to_be_bytes-from c.from_be_bytes.result (bit_xor c.substitute.result c.args.constant) c.substitute-2.result
    c.substitute-3.result c.substitute-4.result
    (xor_of_8 _ _ c.substitute.type_inv (omega arith)) c.substitute-2.type_inv c.substitute-3.type_inv c.substitute-4.type_inv
    c.from_be_bytes.ensures in
    cc
