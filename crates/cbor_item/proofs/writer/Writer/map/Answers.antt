use Rattle.cbor_item.specs.declared.head.Major.TheVariants.{Map}
use Rattle.cbor_item.specs.Head.{IsHead, head_text}
use Rattle.cbor_item.proofs.Spelled.{is_spelled, head_spells}
use Rattle.cbor_item.proofs.writer.Writer.map.Goals as goal

pub returns-clause-spelled : goal.returns-clause-spelled
returns-clause-spelled g c = is_spelled (λ text. IsHead text Map c.args.count) (head_text Map c.args.count) (head_spells Map c.args.count c.ranges.count.fits) g.row.N c.args.self.now c.write_head.new.self c.write_head.result c.write_head.ensures
