use Rattle.std.proofs.Common.{◌≡◌, length}
use Rattle.address_leases.specs.Lent.{last_of}
use Rattle.address_leases.proofs.plain.find_last.Given as goal

abbrev pub invariant-loop-first : goal.invariant-loop-first
invariant-loop-first l = last_of l.rest l.id ≡ last_of l.lasts l.id

abbrev pub decreases-loop-first : goal.decreases-loop-first
decreases-loop-first l = length l.rest
