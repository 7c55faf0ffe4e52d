use Rattle.registrar_state.proofs.LastLemmas.{told_by_code, told_by_none}
use Rattle.registrar_state.proofs.last.told_of.Goals as goal

pub returns-in-None : goal.returns-in-None
returns-in-None c = told_by_none c.args.answer.now c.args.time _ c.in-None.ensures.cases

pub returns-in-Some : goal.returns-in-Some
returns-in-Some c =
    told_by_code c.args.answer.now c.in-Some.code.now c.in-Some.payload.now c.args.time c.told_by.result c.in-Some.ensures.cases.0
    (record { lease = c.told_by.ensures.lease; refusal = c.told_by.ensures.refusal })
