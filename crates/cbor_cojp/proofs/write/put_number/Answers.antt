use Rattle.cbor_cojp.specs.Spelling.{number}
use Rattle.cbor_cojp.proofs.Writing.{puts_from}
use Rattle.cbor_cojp.proofs.write.put_number.Goals as goal

pub returns : goal.returns
unfolding number
returns c = puts_from (number c.args.value) c.args.writer.now c.uint.new.self c.uint.result c.uint.ensures.exact
