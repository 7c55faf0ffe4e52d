use Rattle.std.proofs.Common.{◌≤◌, length, map}
use Rattle.address_leases.specs.Lent.{Lent}
use Rattle.registrar_state.specs.Restore.{GivesAll}
use Rattle.registrar_state.specs.Summary.{lease_of}
use Rattle.registrar_state.proofs.restore.give_grants.Given as goal

abbrev pub invariant-loop-rest : goal.invariant-loop-rest
invariant-loop-rest l = record {
  gives : (new : Lent) → GivesAll l.leases (map lease_of l.rest) new → GivesAll l.initial.leases (map lease_of l.grants) new;
  room : length l.rest ≤ l.leases.room;
}

abbrev pub decreases-loop-rest : goal.decreases-loop-rest
decreases-loop-rest l = length l.rest
