use Rattle.std.proofs.Common.{ℕ, refl, ap}
use Rattle.registrar_state.specs.declared.last.Last.TheVariants as last
use Rattle.registrar_state.proofs.StateSteps.{refusal_added, refuse_decidable}
use Rattle.registrar_state.proofs.state.RegState.add_refusal.Goals as goal

pub decide-requires-clause-enrolled : goal.decide-requires-clause-enrolled
decide-requires-clause-enrolled c = (refuse_decidable c.args.time c.args.context c.args.number c.args.why c.requires.may).row

pub decide-requires-clause-fresh : goal.decide-requires-clause-fresh
decide-requires-clause-fresh c = (refuse_decidable c.args.time c.args.context c.args.number c.args.why c.requires.may).fresh

pub returns-clause-stands : goal.returns-clause-stands
returns-clause-stands c = λ h stands.
    refusal_added _ h c.args.time c.args.context c.args.number c.args.why
    (record { number = c.args.number; time = c.args.time; told = last.Refuse c.code.result; answer = c.refusal_answer.result }) c.requires.may stands refl refl refl
    (record { others = c.decide.ensures.others; len = c.decide.ensures.len }) c.decide.ensures.decided refl refl
    (ap (λ (x : ℕ). last.Refuse x) c.code.ensures) c.refusal_answer.ensures refl refl
