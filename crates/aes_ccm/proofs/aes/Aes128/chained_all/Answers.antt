use Rattle.std.proofs.Common.{◌∙◌, sym, ap, length, take}
use Rattle.aes_ccm.specs.Bytes.{xor, padded, blocks}
use Rattle.aes_ccm.specs.Cipher.{encrypted}
use Rattle.aes_ccm.specs.Ccm.{cbc_mac}
use Rattle.aes_ccm.proofs.BytesLemmas.{none_from, some_from}
use Rattle.aes_ccm.proofs.AadLemmas.{cbc_mac-more, cbc_mac-none}
use Rattle.aes_ccm.proofs.aes.Aes128.chained_all.Goals as goal

pub chain-preserved : goal.chain-preserved
chain-preserved c =
    let some = some_from (length c.chain.rest.now) _ c.is_empty.ensures c.chain-test.true in
    ap (λ mac. cbc_mac c.args.self.now mac (blocks c.split_at.result.1.now)) c.chained-next.ensures
    ∙ ap (λ block. cbc_mac c.args.self.now (encrypted c.args.self.now (xor c.chain.mac block)) (blocks c.split_at.result.1.now)) c.padded.ensures
    ∙ ap (λ bytes. cbc_mac c.args.self.now (encrypted c.args.self.now (xor c.chain.mac (padded bytes))) (blocks c.split_at.result.1.now)) c.split_at.ensures.front
    ∙ ap (λ rest. cbc_mac c.args.self.now (encrypted c.args.self.now (xor c.chain.mac (padded (take c.min.result c.chain.rest.now)))) (blocks rest)) c.split_at.ensures.back
    ∙ cbc_mac-more c.args.self.now c.chain.mac c.chain.rest.now c.min.result some c.min.ensures
    ∙ c.chain.invariant

pub returns : goal.returns
returns c =
    let none = none_from (length c.chain.rest.now) _ c.is_empty.ensures c.chain-test.false in
    sym (cbc_mac-none c.args.self.now c.chain.mac c.chain.rest.now none) ∙ c.chain.invariant
