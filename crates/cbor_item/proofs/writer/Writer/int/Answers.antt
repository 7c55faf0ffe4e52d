use Rattle.std.proofs.Common.{subst}
use Rattle.std.specs.Prelude.{ℤ}
use Rattle.std.specs.Int.{w64}
use Rattle.std.proofs.lemmas.Int.{to_z-of_z}
use Rattle.cbor_item.specs.Reading.{IsInt}
use Rattle.cbor_item.specs.Spelling.{int_text, Writes}
use Rattle.cbor_item.proofs.Spelled.{is_spelled, int_spells}
use Rattle.cbor_item.proofs.writer.Writer.int.Goals as goal

pub returns-clause-spelled : goal.returns-clause-spelled
returns-clause-spelled g c =
    let written = subst (λ (z : ℤ). Writes g.row.N (int_text z) c.args.self.now c.write_int.new.self c.write_int.result)
    (to_z-of_z w64 c.args.value c.ranges.value) c.write_int.ensures in
    is_spelled (λ text. IsInt text c.args.value) (int_text c.args.value) (int_spells c.args.value c.ranges.value) g.row.N
    c.args.self.now c.write_int.new.self c.write_int.result written
