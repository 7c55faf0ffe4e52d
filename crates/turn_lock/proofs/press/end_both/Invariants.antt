use Rattle.std.proofs.Common.{◌≡◌, ◌+◌, ◌++◌, All, false, length, map}
use Rattle.turn_lock.specs.declared.press.Worker.{Worker}
use Rattle.turn_lock.proofs.press.end_both.Given as goal

abbrev pub invariant-loop-worker : goal.invariant-loop-worker
invariant-loop-worker l = record {
  at_desk : l.at_desk.lock ≡ l.fn.desk;
  at_press : l.at_press.lock ≡ l.fn.press;
  desk_count : length l.workers.items + length l.at_desk.passes ≡ length l.fn.workers.items;
  press_count : length l.workers.items + length l.at_press.passes ≡ length l.fn.workers.items;
  desks : map (λ (worker : Worker). worker.desk) l.workers.items ++ l.at_desk.passes ≡ map (λ (worker : Worker). worker.desk) l.fn.workers.items;
  presses : map (λ (worker : Worker). worker.press) l.workers.items ++ l.at_press.passes ≡ map (λ (worker : Worker). worker.press) l.fn.workers.items;
  desk : All (λ (worker : Worker). (worker.desk.lock ≡ l.fn.desk) × (worker.desk.has_turn ≡ false)) l.workers.items;
  press : All (λ (worker : Worker). (worker.press.lock ≡ l.fn.press) × (worker.press.has_turn ≡ false)) l.workers.items;
}

abbrev pub decreases-loop-worker : goal.decreases-loop-worker
decreases-loop-worker l = goal.left-loop-worker l
