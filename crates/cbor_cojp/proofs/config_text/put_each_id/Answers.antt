use Rattle.std.proofs.lemmas.Result.{err_from_is_err_and}
use Rattle.cbor_cojp.specs.Spelling.{string}
use Rattle.cbor_cojp.proofs.ConfigText.{stops}
use Rattle.cbor_cojp.proofs.config_text.put_each_id.Goals as goal

pub returns-in_err-put_string : goal.returns-in_err-put_string
returns-in_err-put_string c =
    let p = err_from_is_err_and c.from_residual.result c.from_residual.ensures.1 in
    rw p.1 (stops string c.args.ids.now c.args.writer.now c.loop-id.writer c.loop-id.id-index _ c.loop-id-test.true c.loop-id.invariant c.in_err-put_string.ensures)
