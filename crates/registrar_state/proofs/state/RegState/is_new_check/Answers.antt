use Rattle.registrar_state.proofs.LegalLemmas.{new_check}
use Rattle.registrar_state.proofs.state.RegState.is_new_check.Goals as goal

pub returns : goal.returns
returns c = λ h stands. new_check c.args.self.now h c.args.check.now c.find.result c.is_none.result stands c.find.ensures c.is_none.ensures
