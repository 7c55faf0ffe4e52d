use Rattle.std.proofs.lemmas.Result.{err_from_is_err_and}
use Rattle.cbor_cojp.specs.Spelling.{key_text}
use Rattle.cbor_cojp.proofs.ConfigText.{stops}
use Rattle.cbor_cojp.proofs.key_text.put_each_key.Goals as goal

pub returns-in_err-put_key : goal.returns-in_err-put_key
returns-in_err-put_key c =
    let p = err_from_is_err_and c.from_residual.result c.from_residual.ensures.1 in
    rw p.1 (stops key_text c.args.keys.now c.args.writer.now c.loop-key.writer c.loop-key.key-index _ c.loop-key-test.true c.loop-key.invariant c.in_err-put_key.ensures)
