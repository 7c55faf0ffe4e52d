use Rattle.std.proofs.Common.{◌≡◌}
use Rattle.edge_memory.specs.Contents.{areas_of}
use Rattle.edge_memory.specs.CallLog.{events_of}
use Rattle.edge_memory.proofs.Replays.{IsReplayed, IsSettled}
use Rattle.edge_memory.proofs.call_log.CallLog.leave.Given as goal

abbrev pub invariant-loop-i : goal.invariant-loop-i
invariant-loop-i l = record {
  replays : IsReplayed (areas_of l.fn.contents) (events_of l.self) l.left l.right l.i (areas_of l.contents);
  settles : l.pick ≡ 0 → IsSettled (areas_of l.fn.contents) (events_of l.self) l.left l.right l.i (areas_of l.contents);
}
