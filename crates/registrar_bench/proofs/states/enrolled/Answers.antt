use Rattle.std.proofs.Common.{◌≡◌, subst, arith}
use Rattle.registrar_bench.specs.States.{AreEnrolled}
use Rattle.registrar_bench.proofs.states.enrolled.Goals as goal

pub returns-clause-enrolled : goal.returns-clause-enrolled
returns-clause-enrolled c =
    let all : c.loop-number.number ≡ 16384 = omega (arith, c.loop-number-test.false, c.loop-number.auto.number-end) in
    subst (AreEnrolled c.loop-number.state) all c.loop-number.invariant.enrolled
