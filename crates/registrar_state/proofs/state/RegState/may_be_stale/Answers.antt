use Rattle.join_history.specs.Epochs.{IsStaleFor}
use Rattle.registrar_state.proofs.StateLemmas.{IsLegal-stands, known_of}
use Rattle.registrar_state.proofs.KeysLemmas.{opposite}
use Rattle.registrar_state.proofs.state.RegState.may_be_stale.Goals as goal

pub returns-then-lacks : goal.returns-then-lacks
returns-then-lacks c = λ h stands.
    let lacks = (c.lacks.ensures h stands).0 c.if-lacks.true in
    let is = opposite (IsStaleFor h c.args.pledge c.args.epoch) c.is_stale.result
    (c.is_stale.ensures h (IsLegal-stands c.args.self.now h stands) (known_of c.args.self.now h stands).pledges lacks.1) in
    (λ yes. (lacks, is.0 yes), λ may. is.1 may.1)
