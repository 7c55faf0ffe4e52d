use Rattle.cbor_cojp.specs.Spelling.{number, string}
use Rattle.cbor_cojp.proofs.Writing.{puts_then}
use Rattle.cbor_cojp.proofs.write.put_bytes.Goals as goal

pub returns : goal.returns
returns c = puts_then (number c.args.label) (string c.args.value.now) c.args.writer.now c.put_number.new.writer c.put_string.new.writer c.put_string.result c.in_ok-put_number.ensures c.put_string.ensures
