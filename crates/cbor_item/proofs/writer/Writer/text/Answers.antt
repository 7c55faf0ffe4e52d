use Rattle.std.proofs.Common.{arith}
use Rattle.cbor_item.specs.declared.head.Major.TheVariants.{Text}
use Rattle.cbor_item.specs.Reading.{IsString}
use Rattle.cbor_item.specs.Spelling.{string_text}
use Rattle.cbor_item.proofs.Spelled.{is_spelled, string_spells}
use Rattle.cbor_item.proofs.writer.Writer.text.Goals as goal

pub returns-clause-spelled : goal.returns-clause-spelled
returns-clause-spelled g c = is_spelled (λ text. IsString Text text c.args.value.now) (string_text Text c.args.value.now) (string_spells Text c.args.value.now (omega arith)) g.row.N c.args.self.now c.write_string.new.self c.write_string.result (rw c.as_bytes.ensures.value at c.write_string.ensures)
