use Rattle.std.proofs.Common.{◌≡◌, ◌+◌, ◌≤◌, All, false, length, vec_len, vec_capacity}
use Rattle.turn_lock.specs.declared.numbers.Numbers.{Numbers}
use Rattle.turn_lock.specs.declared.press.Worker.{Worker}
use Rattle.turn_lock.specs.Press.{PressView}
use Rattle.turn_lock.specs.Locks.{PassView}
use Rattle.turn_lock.proofs.tests.two_locks.pair_passes.Given as goal

abbrev pub invariant-loop-pass : goal.invariant-loop-pass
invariant-loop-pass l = record {
  desks : All (λ (pass : PassView Numbers). (pass.lock ≡ l.desk) × (pass.has_turn ≡ false)) l.desks.items;
  presses : All (λ (pass : PassView PressView). (pass.lock ≡ l.press) × (pass.has_turn ≡ false)) l.presses.items;
  count : length l.workers.items + length l.presses.items ≡ length l.fn.presses.items;
  room : vec_len l.workers + vec_len l.presses ≤ vec_capacity l.workers;
  desk : All (λ (worker : Worker). (worker.desk.lock ≡ l.desk) × (worker.desk.has_turn ≡ false)) l.workers.items;
  press : All (λ (worker : Worker). (worker.press.lock ≡ l.press) × (worker.press.has_turn ≡ false)) l.workers.items;
}

abbrev pub decreases-loop-pass : goal.decreases-loop-pass
decreases-loop-pass l = length l.presses.items
