use Rattle.std.proofs.Common.{arith}
use Rattle.registrar_state.specs.Room.{TakesEntry}
use Rattle.registrar_state.specs.State.{spare_room}
use Rattle.registrar_bench.proofs.EnrolledLemmas.{AreEnrolled-more}
use Rattle.registrar_bench.proofs.states.mark_stale.Goals as goal

pub returns-clause-enrolled : goal.returns-clause-enrolled
returns-clause-enrolled c = λ true.
    let old = c.args.state.now in
    let new = c.add.new.state in
    let takes : TakesEntry (spare_room old) (spare_room new) = c.add.ensures.room true in
    AreEnrolled-more old new 16384 _ (c.add.ensures.stands true) c.requires.enrolled (omega (arith, takes.contexts, c.requires.enrolled.room))
