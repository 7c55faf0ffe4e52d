use Rattle.std.proofs.Common.{◌≡◌, ◌≤◌, ◌++◌, length, map}
use Rattle.rekey_core.specs.Held.{Held}
use Rattle.registrar_state.specs.Pledges.{limit_of}
use Rattle.registrar_state.specs.Restore.{last_in, RestoresAll}
use Rattle.registrar_state.proofs.pledges.Pledges.add_nodes.Given as goal

abbrev pub invariant-loop-rest : goal.invariant-loop-rest
invariant-loop-rest l = record {
  room : length l.rest ≤ l.self.room;
  grants : l.self.grants.items ++ map last_in l.rest ≡ l.initial.self.grants.items ++ map last_in l.nodes;
  epochs : (new : Held) → RestoresAll l.self.holders l.rest new → RestoresAll l.initial.self.holders l.nodes new;
  limit : limit_of l.self ≡ limit_of l.initial.self;
}

abbrev pub decreases-loop-rest : goal.decreases-loop-rest
decreases-loop-rest l = length l.rest
