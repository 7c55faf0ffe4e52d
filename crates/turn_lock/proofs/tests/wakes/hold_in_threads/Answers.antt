use denote.Param.Send.{IsSend, sendable, param_send, arg_send}
use Rattle.std.proofs.vec.Vec.TheSendSync as vec
use Rattle.std.proofs.alloc.Global.TheSendSync as heap
use Rattle.std.proofs.Crossing.{frees}
use Rattle.turn_lock.specs.contracts.numbers.Numbers as numbers
use Rattle.turn_lock.specs.contracts.numbers.NumbersReports.TheImpl.{ghosts}
use Rattle.turn_lock.proofs.Sent.{pass_send}
use Rattle.turn_lock.proofs.tests.wakes.hold_in_threads.Goals as goal

numbers_send : IsSend numbers.the_row
numbers_send = search (sendable, vec.the_send, heap.the_send, frees) depth 12

pub map_vec-requires-send-J : goal.map_vec-requires-send-J
map_vec-requires-send-J g c κs within = param_send 1 _ (arg_send _ denote.Exit.no _ (pass_send numbers.the_row (denote.Struct.Field.u64-field).row (denote.Struct.Field.u64-field).row ghosts numbers_send))

pub map_vec-requires-send-X : goal.map_vec-requires-send-X
map_vec-requires-send-X g c κs within = param_send 2 _ (arg_send _ denote.Exit.no _ (pass_send numbers.the_row (denote.Struct.Field.u64-field).row (denote.Struct.Field.u64-field).row ghosts numbers_send))
