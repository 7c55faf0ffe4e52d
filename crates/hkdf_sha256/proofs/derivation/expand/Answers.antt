use Rattle.std.proofs.Common.{◌∙◌, ap, take}
use Rattle.std.proofs.lemmas.List.{length-replicate}
use Rattle.hkdf_sha256.specs.Hkdf.{output_keying_material}
use Rattle.hkdf_sha256.proofs.PrefixLemmas.{shorter_output, one_block}
use Rattle.hkdf_sha256.proofs.derivation.expand.Goals as goal

pub returns-clause-prefix : goal.returns-clause-prefix
returns-clause-prefix g c m below =
    let prk = c.args.prk.now in
    let info = c.args.info.now in
    c.fill.ensures ∙ ap (output_keying_material prk info) (length-replicate g.row.L 0) ∙ shorter_output prk info g.row.L m below

pub returns-clause-one_block : goal.returns-clause-one_block
returns-clause-one_block g c below =
    let prk = c.args.prk.now in
    let info = c.args.info.now in
    c.fill.ensures ∙ ap (output_keying_material prk info) (length-replicate g.row.L 0)
    ∙ shorter_output prk info g.row.L 32 below ∙ ap (take g.row.L) (one_block prk info)
