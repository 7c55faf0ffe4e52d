use Rattle.registrar_state.proofs.DueLemmas.{judged_row}
use Rattle.registrar_state.proofs.contexts.Row.judge.Goals as goal

pub returns : goal.returns
returns c = λ h d is. judged_row h d c.args.number c.args.self.now c.judge.result is c.judge.ensures.each
