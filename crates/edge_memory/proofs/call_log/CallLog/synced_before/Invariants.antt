use Rattle.std.proofs.Common.{◌≡◌, ◌+◌, ◌<◌, ◌≤◌, ℕ, slice_index_or}
use Rattle.edge_memory.specs.Story.{Idle, Sync}
use Rattle.edge_memory.specs.CallLog.{events_of}
use Rattle.edge_memory.proofs.call_log.CallLog.synced_before.Given as goal

abbrev pub invariant-loop-i : goal.invariant-loop-i
invariant-loop-i l = record {
  syncs : (k : ℕ) → k < l.i → slice_index_or (events_of l.self) k Idle ≡ Sync l.area → k < l.synced;
  last : (k : ℕ) → l.synced ≡ k + 1 → slice_index_or (events_of l.self) k Idle ≡ Sync l.area;
  most : l.synced ≤ l.i;
}
