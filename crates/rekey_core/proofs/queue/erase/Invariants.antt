use Rattle.std.proofs.Common.{◌≡◌, ◌≤◌, ℕ, ◌<◌, length, get_or}
use Rattle.rekey_core.proofs.queue.erase.Given as goal

abbrev pub invariant-loop-place : goal.invariant-loop-place
invariant-loop-place l = record {
  places : length l.ends ≡ length l.initial.ends;
  zero : (k : ℕ) → k < l.place → get_or l.ends k 0 ≡ 0;
  past : (k : ℕ) → l.count ≤ k → get_or l.ends k 0 ≡ 0;
}
