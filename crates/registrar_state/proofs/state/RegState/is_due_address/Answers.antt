use Rattle.registrar_state.proofs.AddressAnswers.{IsDueAddress-answered}
use Rattle.registrar_state.proofs.state.RegState.is_due_address.Goals as goal

pub returns : goal.returns
returns c = λ h stands.
    IsDueAddress-answered h c.args.at c.args.pledge c.due_address.result c.args.address c.eq.result (c.due_address.ensures h stands) c.eq.ensures
