use Rattle.registrar_state.proofs.StateLemmas.{pledge_none, pledge_some}
use Rattle.registrar_state.proofs.state.RegState.pledge_of.Goals as goal

pub returns-in-None : goal.returns-in-None
returns-in-None c = λ h stands. pledge_none c.args.self.now h c.args.context stands (c.in-None.ensures h stands)

pub returns-in-Some : goal.returns-in-Some
returns-in-Some c = λ h stands. pledge_some c.args.self.now h c.args.context c.in-Some.row.now stands (c.in-Some.ensures h stands)
