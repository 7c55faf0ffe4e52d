-- A worker over a list and its press may go to another thread, and threads may share both locks.
use denote.RattleType.{RattleType}
use denote.Param.Send.{IsSend, IsSync, sendable}
use Rattle.std.proofs.vec.Vec.TheSendSync as vec
use Rattle.std.proofs.alloc.Global.TheSendSync as heap
use Rattle.std.proofs.Crossing.{frees}
use Rattle.turn_lock.specs.contracts.numbers.Numbers as numbers
use Rattle.turn_lock.specs.contracts.numbers.NumbersReports.TheImpl as numbers_reports
use Rattle.turn_lock.specs.contracts.lock.TurnLock as lock
use Rattle.turn_lock.specs.contracts.pass.Pass as pass
use Rattle.turn_lock.specs.contracts.press.Press as press
use Rattle.turn_lock.specs.contracts.press.PressReports.TheImpl as press_reports
use Rattle.turn_lock.specs.contracts.press.Worker as worker
use Rattle.turn_lock.proofs.Sent.{pass_send, lock_sync}

abbrev word : RattleType
word = (denote.Struct.Field.u64-field).row

abbrev desk_row : RattleType
desk_row = lock.the_row numbers.the_row word word numbers_reports.ghosts

numbers_send : IsSend numbers.the_row
numbers_send = search (sendable, vec.the_send, heap.the_send, frees) depth 12

desk_pass_send : IsSend (pass.the_row numbers.the_row word word numbers_reports.ghosts)
desk_pass_send = pass_send numbers.the_row word word numbers_reports.ghosts numbers_send

press_send : IsSend press.the_row
press_send = search (sendable, desk_pass_send, vec.the_send, heap.the_send, frees) depth 12

press_pass_send : IsSend (pass.the_row press.the_row word desk_row press_reports.ghosts)
press_pass_send = pass_send press.the_row word desk_row press_reports.ghosts press_send

pub desk_sync : IsSync desk_row
desk_sync = lock_sync numbers.the_row word word numbers_reports.ghosts numbers_send

pub press_sync : IsSync (lock.the_row press.the_row word desk_row press_reports.ghosts)
press_sync = lock_sync press.the_row word desk_row press_reports.ghosts press_send

pub worker_send : IsSend worker.the_row
worker_send = search (sendable, desk_pass_send, press_pass_send) depth 12

pub word_sync : IsSync word
word_sync = search sendable depth 6
