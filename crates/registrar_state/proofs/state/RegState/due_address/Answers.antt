use Rattle.registrar_state.proofs.DueLemmas.{asked}
use Rattle.registrar_state.proofs.StateLemmas.{known_of, passed_by}
use Rattle.registrar_state.proofs.state.RegState.due_address.Goals as goal

pub ask-requires-clause-time : goal.ask-requires-clause-time
ask-requires-clause-time c = passed_by c.args.self.now c.args.at c.requires.moment

pub returns : goal.returns
returns c = λ h stands.
    asked h c.args.self.now.leases c.args.settings.now c.args.at c.args.pledge c.ask.result (known_of c.args.self.now h stands).leases
    (passed_by c.args.self.now c.args.at c.requires.moment) (c.requires.current h stands) c.ask.ensures
