use Rattle.cbor_cojp.specs.Spelling.{number}
use Rattle.cbor_cojp.proofs.Writing.{puts_then}
use Rattle.cbor_cojp.proofs.write.put_uint.Goals as goal

pub returns : goal.returns
returns c = puts_then (number c.args.label) (number c.args.value) c.args.writer.now c.put_number.new.writer c.put_number-2.new.writer c.put_number-2.result c.in_ok-put_number.ensures c.put_number-2.ensures
