use Rattle.address_leases.proofs.TopsLemmas.{none_all}
use Rattle.address_leases.proofs.tops.Tops.clear.Goals as goal

pub returns : goal.returns
returns c = λ a. none_all _ 65536 c.loop-block.invariant.0 c.loop-block.invariant.2 a
