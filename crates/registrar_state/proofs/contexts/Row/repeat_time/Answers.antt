use Rattle.registrar_state.proofs.DueLemmas.{no_repeat, last_of_row, other_number}
use Rattle.registrar_state.proofs.contexts.Row.repeat_time.Goals as goal

pub returns-in-None : goal.returns-in-None
returns-in-None c = λ h d is. no_repeat h d c.args.number c.args.self.now is c.in-None.is

pub returns-else-last-number : goal.returns-else-last-number
returns-else-last-number c = λ h d is.
    other_number h d c.args.number c.in-Some.last (last_of_row h d c.args.self.now c.in-Some.last is c.in-Some.is) c.if-last-number.false
