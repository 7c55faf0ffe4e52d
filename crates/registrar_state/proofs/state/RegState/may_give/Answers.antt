use Rattle.std.proofs.lemmas.Bool.{false≢true}
use Rattle.registrar_state.proofs.StateLemmas.{IsLegal-stands}
use Rattle.registrar_state.proofs.KeysLemmas.{no_give, may_give}
use Rattle.registrar_state.proofs.state.RegState.may_give.Goals as goal

pub returns-in-None : goal.returns-in-None
returns-in-None c = λ h stands.
    (λ yes. absurd (false≢true yes), λ may. absurd (no_give h c.args.time c.args.context c.args.number c.args.epoch (IsLegal-stands c.args.self.now h stands) (c.in-None.ensures h stands) may))

pub returns-then-number-row : goal.returns-then-number-row
returns-then-number-row c = λ h stands.
    may_give h c.args.time c.args.context c.args.number c.args.epoch c.in-Some.row.now c.lacks.result (IsLegal-stands c.args.self.now h stands) (c.in-Some.ensures h stands)
    c.if-number-row.true (c.lacks.ensures h stands)
