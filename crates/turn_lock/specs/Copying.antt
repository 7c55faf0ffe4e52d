-- What the calls over a list and its copy do to both locks.
use Rattle.std.specs.Prelude.{◌≡◌, ℕ, List, ◌∷◌, map}
use mathlib.Core.List.{IsPrefix}
use Rattle.turn_lock.specs.declared.numbers.Numbers.{Numbers}
use Rattle.turn_lock.specs.declared.press.Worker.{Worker}
use Rattle.turn_lock.specs.Report.{GrowsTo}
use Rattle.turn_lock.specs.Numbers.{report_of, name_of}
use Rattle.turn_lock.specs.Press.{PressView, copy_report, copied_from}
use Rattle.turn_lock.specs.Locks.{LockView, PassView, HadTurn, with_seen}
use Rattle.turn_lock.specs.History.{IsReported}

-- the pass had one turn of the list's lock, and left the list as it was
pub record HasLooked (before after : PassView Numbers) : Type 0 where
  pub found : Numbers
  pub grown : GrowsTo (report_of before.seen) (report_of found)
  pub turn : HadTurn before found found after

-- the pass had one turn of the press's lock, in which the copy grew and the press had one turn of the list's lock
pub record HasCopied (before after : PassView PressView) : Type 0 where
  pub found : PressView
  pub left : PressView
  pub turn : HadTurn before found left after
  pub since : IsPrefix before.seen.copy found.copy
  pub grown : IsPrefix found.copy left.copy
  pub looked : HasLooked found.pass left.pass

-- the pass had one turn of the press's lock, in which the press's own pass saw this list last and nothing else changed
pub record HasAsked (before after : PassView PressView) (list : Numbers) : Type 0 where
  pub found : PressView
  pub turn : HadTurn before found (record { copy = found.copy; pass = with_seen found.pass list }) after
  pub since : IsPrefix before.seen.copy found.copy

-- the list and the copy are those of the last holdings of these passes and of the press's own
pub record HaveEnded (desk : LockView Numbers) (press : LockView PressView) (workers : List Worker) (list : Numbers) (copy : List ℕ) : Type 0 where
  pub last : PressView
  pub copy_is : last.copy ≡ copy
  pub press_reports : IsReported copy_report copied_from press.opening last (map (λ (worker : Worker). worker.press) workers)
  pub desk_reports : IsReported report_of name_of desk.opening list (last.pass ∷ map (λ (worker : Worker). worker.desk) workers)
