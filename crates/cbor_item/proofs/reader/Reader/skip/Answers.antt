use Rattle.cbor_item.specs.Reading.{IsSkipped, skip_at}
use Rattle.cbor_item.proofs.Calls.{is_found, is_only, reads_skipped}
use Rattle.cbor_item.proofs.reader.Reader.skip.Goals as goal

pub returns-clause-found : goal.returns-clause-found
returns-clause-found c = is_found (λ _. tt) (IsSkipped) (skip_at) (reads_skipped) c.args.self.now c.read_item.new.self c.read_item.result c.read_item.ensures

pub returns-clause-only : goal.returns-clause-only
returns-clause-only c = is_only (λ _. tt) (IsSkipped) (skip_at) (reads_skipped) c.args.self.now c.read_item.new.self c.read_item.result c.read_item.ensures
