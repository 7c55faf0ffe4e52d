use denote.Param.Send.{param_send, arg_send}
use Rattle.std.proofs.sync.atomic.AtomicU64.TheSendSync as counter
use Rattle.turn_lock.proofs.Sent.{lent_sync}
use Rattle.turn_lock.proofs.PressSent.{worker_send, word_sync, desk_sync, press_sync}
use Rattle.turn_lock.proofs.tests.two_locks.work_in_threads.Goals as goal

pub map_vec-requires-send-J : goal.map_vec-requires-send-J
map_vec-requires-send-J g c κs within = param_send 1 _ (arg_send _ denote.Exit.no _ worker_send)

pub map_vec-requires-send-X : goal.map_vec-requires-send-X
map_vec-requires-send-X g c κs within = param_send 2 _ (arg_send _ denote.Exit.no _ worker_send)

-- one part for each variable that the closure captures, in the order of the function's parameters
pub map_vec-requires-sync-F : goal.map_vec-requires-sync-F
map_vec-requires-sync-F g c κs within = record { shared = λ x b o κ. ((lent_sync _ c.type_bounds.sync-R x.0 _, (lent_sync _ desk_sync x.1 _, (lent_sync _ press_sync x.2 _, (lent_sync _ word_sync x.3 κ, (lent_sync _ counter.the_sync x.4 _, tt))))), λ q. tt) }
