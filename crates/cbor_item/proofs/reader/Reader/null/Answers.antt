use Rattle.cbor_item.specs.Reading.{IsNull, null_at}
use Rattle.cbor_item.proofs.Calls.{is_found, is_only, reads_null}
use Rattle.cbor_item.proofs.reader.Reader.null.Goals as goal

pub returns-clause-found : goal.returns-clause-found
returns-clause-found c = is_found (λ _. tt) (IsNull) (null_at) (reads_null) c.args.self.now c.read_null.new.self c.read_null.result c.read_null.ensures

pub returns-clause-only : goal.returns-clause-only
returns-clause-only c = is_only (λ _. tt) (IsNull) (null_at) (reads_null) c.args.self.now c.read_null.new.self c.read_null.result c.read_null.ensures
