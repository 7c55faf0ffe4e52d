use Rattle.std.proofs.Common.{refl}
use Rattle.registrar_state.proofs.StateSteps.{context_added, context_addable}
use Rattle.registrar_state.proofs.state.RegState.add_context.Goals as goal

pub enroll-requires-clause-new_check : goal.enroll-requires-clause-new_check
enroll-requires-clause-new_check c = (context_addable c.args.context c.args.id c.args.check c.requires.may).new

pub enroll-requires-clause-few : goal.enroll-requires-clause-few
enroll-requires-clause-few c = (context_addable c.args.context c.args.id c.args.check c.requires.may).few

pub returns-clause-stands : goal.returns-clause-stands
returns-clause-stands c = λ h stands.
    context_added _ h c.args.context c.args.id c.args.check c.requires.may stands refl refl refl c.enroll.ensures.rows refl refl
