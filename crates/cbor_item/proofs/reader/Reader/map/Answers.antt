use Rattle.cbor_item.specs.declared.head.Major.TheVariants.{Map}
use Rattle.cbor_item.specs.Head.{IsHead, argument_of}
use Rattle.cbor_item.proofs.Calls.{is_found, is_only, reads_argument}
use Rattle.cbor_item.proofs.reader.Reader.map.Goals as goal

pub returns-clause-found : goal.returns-clause-found
returns-clause-found c = is_found (λ n. n) (λ text n. IsHead text Map n) (argument_of Map) (reads_argument Map) c.args.self.now c.read_argument_of.new.self c.read_argument_of.result c.read_argument_of.ensures

pub returns-clause-only : goal.returns-clause-only
returns-clause-only c = is_only (λ n. n) (λ text n. IsHead text Map n) (argument_of Map) (reads_argument Map) c.args.self.now c.read_argument_of.new.self c.read_argument_of.result c.read_argument_of.ensures
