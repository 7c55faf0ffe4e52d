use Rattle.registrar_state.proofs.ContextsRestored.{row_for}
use Rattle.registrar_state.proofs.restore.row_of.Goals as goal

pub returns : goal.returns
returns c = row_for c.args.context.now c.window_of.result c.last_of.result c.window_of.ensures c.last_of.ensures
