use Rattle.address_leases.proofs.TopsLemmas.{tops_none}
use Rattle.address_leases.proofs.tops.Tops.new.Goals as goal

pub invariant_of-result : goal.invariant_of-result
invariant_of-result c =
    tops_none c.in_ok-tops.tops.items c.in_ok-bounds.bounds.items
    c.in_ok-tops.ensures.len c.in_ok-bounds.ensures.len c.in_ok-bounds.ensures.none
