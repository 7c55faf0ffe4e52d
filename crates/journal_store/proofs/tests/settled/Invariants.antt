use Rattle.std.proofs.Common.{◌≢◌, ◌<◌, ◌^◌, ℕ, [], List}
use Rattle.edge_memory.specs.MemDisk.{may_leave_of}
use Rattle.journal_text.specs.declared.entry.Entry.{Entry}
use Rattle.journal_store.specs.Store.{pending_of, reach_of, IsPending}
use Rattle.journal_store.proofs.tests.settled.Given as goal

-- what is pending stays so until it is settled
abbrev pub invariant-loop-answer : goal.invariant-loop-answer
invariant-loop-answer g l = record {
  pending : pending_of l.journal ≢ [] → (header : List ℕ) × (log : List Entry) × (entries : List Entry) × IsPending may_leave_of header l.journal log entries;
  room : reach_of l.journal < 2 ^ 63;
}
