use Rattle.cbor_cojp.specs.Spelling.{string}
use Rattle.cbor_cojp.proofs.Writing.{puts_from}
use Rattle.cbor_cojp.proofs.write.put_string.Goals as goal

pub returns : goal.returns
unfolding string
returns c = puts_from (string c.args.value.now) c.args.writer.now c.bytes.new.self c.bytes.result c.bytes.ensures.exact
