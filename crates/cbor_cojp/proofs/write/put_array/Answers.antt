use Rattle.cbor_cojp.specs.Spelling.{array}
use Rattle.cbor_cojp.proofs.Writing.{puts_from}
use Rattle.cbor_cojp.proofs.write.put_array.Goals as goal

pub returns : goal.returns
unfolding array
returns c = puts_from (array c.args.count) c.args.writer.now c.array.new.self c.array.result c.array.ensures.exact
