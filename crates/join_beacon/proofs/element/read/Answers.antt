use Rattle.join_beacon.proofs.Elements.{found, only, faults}
use Rattle.join_beacon.proofs.element.read.Goals as goal

pub returns-clause-found : goal.returns-clause-found
returns-clause-found c = found c.args.bytes.now c.read_element.result c.read_element.ensures

pub returns-clause-only : goal.returns-clause-only
returns-clause-only c = only c.args.bytes.now c.read_element.result c.read_element.ensures

pub returns-clause-fault : goal.returns-clause-fault
returns-clause-fault c = faults c.args.bytes.now c.read_element.result c.read_element.ensures
