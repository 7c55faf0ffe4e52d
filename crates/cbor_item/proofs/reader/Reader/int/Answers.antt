use Rattle.cbor_item.specs.Reading.{IsInt, int_at}
use Rattle.cbor_item.proofs.Calls.{is_found, is_only, reads_int}
use Rattle.cbor_item.proofs.reader.Reader.int.Goals as goal

pub returns-clause-found : goal.returns-clause-found
returns-clause-found c = is_found (λ z. z) (IsInt) (int_at) (reads_int) c.args.self.now c.read_int.new.self c.read_int.result c.read_int.ensures

pub returns-clause-only : goal.returns-clause-only
returns-clause-only c = is_only (λ z. z) (IsInt) (int_at) (reads_int) c.args.self.now c.read_int.new.self c.read_int.result c.read_int.ensures
