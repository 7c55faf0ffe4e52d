use Rattle.std.proofs.Common.{◌≡◌}
use Rattle.join_history.specs.Answers.{configuration}
use Rattle.registrar_state.proofs.last.lease_in.Goals as goal

pub returns-in-Ok : goal.returns-in-Ok
returns-in-Ok c keys s a is hours fits =
    let read = c.read_config.ensures.only (configuration keys s a) is in
    let same : c.in-Ok.config ≡ configuration keys s a = cc (read, c.in-Ok.is) in
    c.lease_of.ensures keys s a same hours fits

pub returns-in-Err : goal.returns-in-Err
returns-in-Err c keys s a is hours fits =
    let read = c.read_config.ensures.only (configuration keys s a) is in
    absurd (cc (read, c.in-Err.is))
