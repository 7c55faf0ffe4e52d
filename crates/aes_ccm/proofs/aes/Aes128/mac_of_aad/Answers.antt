use Rattle.std.proofs.Common.{◌∙◌, ap, length}
use Rattle.aes_ccm.specs.Cipher.{encrypted}
use Rattle.aes_ccm.proofs.BytesLemmas.{none_from, some_from}
use Rattle.aes_ccm.proofs.AadLemmas.{mac_of_aad-none, mac_of_aad-some}
use Rattle.aes_ccm.proofs.aes.Aes128.mac_of_aad.Goals as goal

pub returns-then-is_empty : goal.returns-then-is_empty
returns-then-is_empty c =
    let none = none_from (length c.args.aad.now) _ c.is_empty.ensures c.if-is_empty.true in
    c.block-mac.ensures ∙ ap (encrypted c.args.self.now) c.first_block.ensures
    ∙ mac_of_aad-none c.args.self.now c.args.nonce.now c.args.aad.now c.args.len none

pub returns : goal.returns
returns c =
    let some = some_from (length c.args.aad.now) _ c.is_empty.ensures c.if-is_empty.false in
    let whole = mac_of_aad-some c.args.self.now c.args.nonce.now c.args.aad.now c.args.len c.min.result some c.min.ensures in
    cc
