use denote.Param.Send.{param_send, arg_send}
use Rattle.turn_lock.proofs.Sent.{pass_send}
use Rattle.turn_lock.proofs.tests.any_value.take_turns.Goals as goal

pub for_each_mut-requires-send-T : goal.for_each_mut-requires-send-T
for_each_mut-requires-send-T g c κs within = param_send 1 _ (arg_send _ denote.Exit.no _ (pass_send _ (denote.Param.param 2 g.row.V-Item) (denote.Param.param 3 g.row.V-Origin) g.V.Reports c.type_bounds.send-V))
