use Rattle.std.proofs.Common.{◌≡◌, ◌+◌, ◌≤◌, length, take}
use Rattle.join_history.specs.Limits.{context_limit, entry_limit}
use Rattle.join_history.specs.Contexts.{context_count}
use Rattle.registrar_state.specs.State.{StandsFor, spare_room}
use Rattle.registrar_book.proofs.replay.replay.Given as goal

abbrev pub invariant-loop-index : goal.invariant-loop-index
invariant-loop-index l = record {
  stands : StandsFor l.state (take l.index l.log);
  contexts : (spare_room l.state).contexts + context_count (take l.index l.log) ≡ context_limit;
  room : entry_limit ≤ (spare_room l.state).entries + l.index;
  short : length l.log ≤ (spare_room l.state).entries + l.index;
}
