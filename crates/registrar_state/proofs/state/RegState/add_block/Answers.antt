use Rattle.std.proofs.Common.{refl}
use Rattle.registrar_state.proofs.StateSteps.{block_added, block_row}
use Rattle.registrar_state.proofs.state.RegState.add_block.Goals as goal

pub set_end-requires : goal.set_end-requires
set_end-requires c = block_row c.args.context c.args.to c.requires.may

pub returns-clause-stands : goal.returns-clause-stands
returns-clause-stands c = λ h stands.
    block_added _ h c.args.context c.args.to c.requires.may stands refl refl refl (record { others = c.set_end.ensures.others; len = c.set_end.ensures.len }) c.set_end.ensures.set refl refl
