use Rattle.std.proofs.Common.{arith}
use Rattle.cbor_item.specs.declared.head.Major.TheVariants.{Bytes}
use Rattle.cbor_item.specs.Reading.{IsString}
use Rattle.cbor_item.specs.Spelling.{string_text}
use Rattle.cbor_item.proofs.Spelled.{is_spelled, string_spells}
use Rattle.cbor_item.proofs.writer.Writer.bytes.Goals as goal

pub returns-clause-spelled : goal.returns-clause-spelled
returns-clause-spelled g c = is_spelled (λ text. IsString Bytes text c.args.value.now) (string_text Bytes c.args.value.now) (string_spells Bytes c.args.value.now (omega arith)) g.row.N c.args.self.now c.write_string.new.self c.write_string.result c.write_string.ensures
