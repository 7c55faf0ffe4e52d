use Rattle.std.proofs.Common.{◌≡◌, ◌++◌, All, false}
use Rattle.turn_lock.specs.Locks.{PassView}
use Rattle.turn_lock.proofs.lock.TurnLock.finish.Given as goal

abbrev pub invariant-loop-pass : goal.invariant-loop-pass
invariant-loop-pass g l = record {
  lock : l.closing.lock ≡ l.fn.self;
  cut : l.passes.items ++ l.closing.passes ≡ l.fn.passes.items;
  locks : All (λ (pass : PassView g.row.V.Denot). pass.lock ≡ l.fn.self) l.passes.items;
  ended : All (λ (pass : PassView g.row.V.Denot). pass.has_turn ≡ false) l.passes.items;
}

abbrev pub decreases-loop-pass : goal.decreases-loop-pass
decreases-loop-pass g l = goal.left-loop-pass g l
