use Rattle.cbor_item.specs.declared.head.Major.TheVariants.{Array}
use Rattle.cbor_item.specs.Head.{IsHead, argument_of}
use Rattle.cbor_item.proofs.Calls.{is_found, is_only, reads_argument}
use Rattle.cbor_item.proofs.reader.Reader.array.Goals as goal

pub returns-clause-found : goal.returns-clause-found
returns-clause-found c = is_found (λ n. n) (λ text n. IsHead text Array n) (argument_of Array) (reads_argument Array) c.args.self.now c.read_argument_of.new.self c.read_argument_of.result c.read_argument_of.ensures

pub returns-clause-only : goal.returns-clause-only
returns-clause-only c = is_only (λ n. n) (λ text n. IsHead text Array n) (argument_of Array) (reads_argument Array) c.args.self.now c.read_argument_of.new.self c.read_argument_of.result c.read_argument_of.ensures
