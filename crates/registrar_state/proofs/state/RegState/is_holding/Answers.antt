use Rattle.registrar_state.proofs.DueLemmas.{holds_some}
use Rattle.registrar_state.proofs.StateLemmas.{known_of, passed_by}
use Rattle.registrar_state.proofs.state.RegState.is_holding.Goals as goal

pub returns-then-is_timely : goal.returns-then-is_timely
returns-then-is_timely c = λ h stands.
    let timely = (c.is_timely.ensures h stands).0 c.if-is_timely.true in
    let passed = passed_by c.args.self.now c.args.time (h, stands, timely.not_before) in
    let same = holds_some h c.args.self.now.leases c.args.time c.args.pledge (known_of c.args.self.now h stands).leases passed in
    (λ yes. (timely, same.0 (c.holds_some.ensures.0 yes)), λ held. c.holds_some.ensures.1 (same.1 held.1))
