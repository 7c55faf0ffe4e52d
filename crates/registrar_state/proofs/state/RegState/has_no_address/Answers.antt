use Rattle.registrar_state.proofs.AddressAnswers.{HasNoAddress-answered}
use Rattle.registrar_state.proofs.state.RegState.has_no_address.Goals as goal

pub returns : goal.returns
returns c = λ h stands.
    HasNoAddress-answered h c.args.at c.args.pledge c.due_address.result c.is_none.result (c.due_address.ensures h stands) c.is_none.ensures
