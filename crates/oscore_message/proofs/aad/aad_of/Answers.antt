use Rattle.std.proofs.Common.{◌∙◌, length, ap, arith}
use Rattle.oscore_message.proofs.Aads.{pushed, aad_is}
use Rattle.oscore_message.proofs.PartialIvs.{length-partial_iv}
use Rattle.oscore_message.proofs.aad.aad_of.Goals as goal

pub returns-clause-aad : goal.returns-clause-aad
returns-clause-aad c =
    let few = length-partial_iv c.args.number in
    let piv = c.as_slice-piv.ensures.value ∙ c.partial_iv_of-bytes.ensures in
    pushed _ _ _ _ _ _ _ _ _ c.args.kid.now c.as_slice-piv.result.now _ _ _ c.new-out.ensures c.append.ensures.items
    c.push.ensures.items c.append-2.ensures.items c.push-2.ensures.items c.append-3.ensures.items c.push-3.ensures.items
    c.append-4.ensures.items c.push-4.ensures.items
    ∙ aad_is c.args.kid.now c.as_slice-piv.result.now c.args.number piv c.requires.kid (omega (arith, ap length piv, few.1))
