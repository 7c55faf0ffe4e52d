use Rattle.std.proofs.Common.{◌≡◌, false}
use Rattle.turn_lock.proofs.tests.two_locks.work.Given as goal

abbrev pub invariant-loop-number : goal.invariant-loop-number
invariant-loop-number g l = record {
  desk : (l.worker.desk.lock ≡ l.desk) × (l.worker.desk.has_turn ≡ false);
  press : (l.worker.press.lock ≡ l.press) × (l.worker.press.has_turn ≡ false);
}
