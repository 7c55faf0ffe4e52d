use Rattle.std.proofs.Common.{arith, ◌∙◌, sym, take}
use Rattle.std.proofs.lemmas.List.{length-take-le}
use Rattle.aes_ccm.proofs.SealedLemmas.{sealed_buffer, tag_from}
use Rattle.aes_ccm.proofs.aes.Aes128.seal.Goals as goal

pub returns-clause-sealed : goal.returns-clause-sealed
returns-clause-sealed c =
    let plain = take c.args.len c.args.buf.now in
    sealed_buffer c.args.self.now c.args.nonce.now c.args.aad.now c.args.buf.now c.seal_text-text_mac.new.text
    c.copy_from_slice.new.self c.args.len _ (omega arith) (omega arith) c.seal_text-text_mac.ensures.text
    (c.copy_from_slice.ensures.after ∙ c.tag-tag.ensures
    ∙ tag_from c.args.self.now c.args.nonce.now c.args.aad.now plain c.seal_text-text_mac.result c.mac_of_aad-mac.result c.args.len
    (sym (length-take-le c.args.len c.args.buf.now (omega arith))) c.mac_of_aad-mac.ensures c.seal_text-text_mac.ensures.mac)
