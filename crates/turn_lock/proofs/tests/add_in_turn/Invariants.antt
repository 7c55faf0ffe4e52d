use Rattle.std.proofs.Common.{◌≡◌, ◌<◌, false, All, length, vec_len}
use Rattle.turn_lock.specs.Locks.{PassView}
use Rattle.turn_lock.specs.declared.numbers.Numbers.{Numbers}
use Rattle.turn_lock.proofs.tests.add_in_turn.Given as goal

abbrev pub invariant-loop-turn : goal.invariant-loop-turn
invariant-loop-turn g l = record {
  some_pass : 0 < vec_len l.passes;
  lock : All (λ (pass : PassView Numbers). pass.lock ≡ l.lock) l.passes.items;
  ended : All (λ (pass : PassView Numbers). pass.has_turn ≡ false) l.passes.items;
  all : length l.passes.items ≡ length l.initial.passes.items;
}
