use Rattle.std.proofs.Common.{◌≤◌, length}
use Rattle.address_leases.specs.Lent.{Lent}
use Rattle.registrar_state.specs.Restore.{GivesAll, leases_in}
use Rattle.registrar_state.proofs.restore.give_nodes.Given as goal

abbrev pub invariant-loop-rest : goal.invariant-loop-rest
invariant-loop-rest l = record {
  gives : (new : Lent) → GivesAll l.leases (leases_in l.rest) new → GivesAll l.initial.leases (leases_in l.nodes) new;
  room : length l.rest ≤ l.leases.room;
}

abbrev pub decreases-loop-rest : goal.decreases-loop-rest
decreases-loop-rest l = length l.rest
