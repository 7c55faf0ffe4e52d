use Rattle.cbor_item.specs.declared.head.Major.TheVariants.{Text}
use Rattle.cbor_item.specs.Reading.{IsString, string_at}
use Rattle.cbor_item.proofs.Calls.{is_found, is_only, reads_string}
use Rattle.cbor_item.proofs.reader.Reader.text.Goals as goal

pub returns-clause-found : goal.returns-clause-found
returns-clause-found c = is_found (λ v. v.now) (IsString Text) (string_at Text) (reads_string Text) c.args.self.now c.read_string.new.self c.read_string.result c.read_string.ensures

pub returns-clause-only : goal.returns-clause-only
returns-clause-only c = is_only (λ v. v.now) (IsString Text) (string_at Text) (reads_string Text) c.args.self.now c.read_string.new.self c.read_string.result c.read_string.ensures
