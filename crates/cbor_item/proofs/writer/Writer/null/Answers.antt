use Rattle.cbor_item.specs.Reading.{IsNull}
use Rattle.cbor_item.specs.Spelling.{null_text}
use Rattle.cbor_item.proofs.Spelled.{is_spelled, null_spells}
use Rattle.cbor_item.proofs.writer.Writer.null.Goals as goal

pub returns-clause-spelled : goal.returns-clause-spelled
returns-clause-spelled g c = is_spelled (λ text. IsNull text tt) (null_text) (null_spells) g.row.N c.args.self.now c.append.new.self c.append.result c.append.ensures
