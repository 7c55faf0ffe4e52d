use Rattle.cbor_cojp.specs.Spelling.{map}
use Rattle.cbor_cojp.proofs.Writing.{puts_from}
use Rattle.cbor_cojp.proofs.write.put_map.Goals as goal

pub returns : goal.returns
unfolding map
returns c = puts_from (map c.args.count) c.args.writer.now c.map.new.self c.map.result c.map.ensures.exact
