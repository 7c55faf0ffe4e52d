use Rattle.cbor_item.specs.declared.head.Major.TheVariants.{Unsigned}
use Rattle.cbor_item.specs.Head.{IsHead, head_text}
use Rattle.cbor_item.proofs.Spelled.{is_spelled, head_spells}
use Rattle.cbor_item.proofs.writer.Writer.uint.Goals as goal

pub returns-clause-spelled : goal.returns-clause-spelled
returns-clause-spelled g c = is_spelled (λ text. IsHead text Unsigned c.args.value) (head_text Unsigned c.args.value) (head_spells Unsigned c.args.value c.ranges.value.fits) g.row.N c.args.self.now c.write_head.new.self c.write_head.result c.write_head.ensures
