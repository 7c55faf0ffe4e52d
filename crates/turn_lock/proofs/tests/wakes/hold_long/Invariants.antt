use Rattle.std.proofs.Common.{◌≡◌, false}
use Rattle.turn_lock.proofs.tests.wakes.hold_long.Given as goal

abbrev pub invariant-loop-number : goal.invariant-loop-number
invariant-loop-number g l = (l.pass.lock ≡ l.lock) × (l.pass.has_turn ≡ false)
