-- A copy of a prefix of a list, as callers see it.
use Rattle.std.specs.Prelude.{ℕ, List}
use Rattle.turn_lock.specs.declared.numbers.Numbers.{Numbers}
use Rattle.turn_lock.specs.Report.{Report}
use Rattle.turn_lock.specs.Locks.{LockView, PassView}

-- the numbers that were copied, and the pass of the list's lock
pub record PressView : Type 0 where
  pub copy : List ℕ
  pub pass : PassView Numbers

abbrev pub copy_report : PressView → Report ℕ
copy_report press = record { items = press.copy; first = 0; second = 0 }

abbrev pub copied_from : PressView → LockView Numbers
copied_from press = press.pass.lock
