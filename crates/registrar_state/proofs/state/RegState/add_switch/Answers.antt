use Rattle.std.proofs.Common.{refl}
use Rattle.registrar_state.proofs.GrantSteps.{switch_added}
use Rattle.registrar_state.proofs.state.RegState.add_switch.Goals as goal

pub returns-clause-stands : goal.returns-clause-stands
returns-clause-stands c = λ h stands. switch_added _ h c.args.time c.args.epoch c.requires.may stands refl refl c.switched-self.ensures refl refl refl
