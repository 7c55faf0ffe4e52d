use Rattle.std.proofs.Common.{ℕ, ◌+◌, sym, subst, arith}
use Rattle.registrar_state.specs.Room.{TakesContext}
use Rattle.registrar_state.specs.State.{spare_room}
use Rattle.registrar_bench.specs.States.{AreEnrolled}
use Rattle.registrar_bench.proofs.EnrolledLemmas.{AreEnrolled-next}
use Rattle.registrar_bench.proofs.states.enroll.Goals as goal

pub returns-clause-enrolled : goal.returns-clause-enrolled
returns-clause-enrolled c = λ true.
    let old = c.args.state.now in
    let new = c.add.new.state in
    let are = subst (AreEnrolled old) (sym c.from.ensures) c.requires.enrolled in
    let takes : TakesContext (spare_room old) (spare_room new) = c.add.ensures.room true in
    subst (λ (n : ℕ). AreEnrolled new (n + 1)) c.from.ensures
    (AreEnrolled-next old new c.from.result c.pledge.result _ (c.add.ensures.stands true) are (omega (arith, takes.contexts, are.room)))
