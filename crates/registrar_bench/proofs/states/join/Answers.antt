use Rattle.std.proofs.Common.{arith}
use Rattle.join_history.specs.declared.due.Want.TheVariants.{Join}
use Rattle.registrar_state.specs.State.{spare_room}
use Rattle.registrar_bench.proofs.EnrolledLemmas.{AreEnrolled-more, takes_entry-due}
use Rattle.registrar_bench.proofs.states.join.Goals as goal

pub returns-in-Add-clause-enrolled : goal.returns-in-Add-clause-enrolled
returns-in-Add-clause-enrolled c =
    let old = c.args.state.now in
    let new = c.apply.new.self in
    let are = c.requires.enrolled in
    let due = c.in-Add.ensures.due are.settings.0 are.settings.2 in
    let takes = takes_entry-due (spare_room old) (spare_room new) are.settings.0 c.args.now c.from.result c.args.number Join c.in-Add.entry due c.apply.ensures.room in
    AreEnrolled-more old new 16384 c.in-Add.entry c.apply.ensures.stands are (omega (arith, takes.contexts, are.room))
