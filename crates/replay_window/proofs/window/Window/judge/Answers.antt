use Rattle.std.proofs.Common.{subst, sym}
use Rattle.replay_window.specs.Parts.{StandsFor, IsWindow}
use Rattle.replay_window.proofs.WindowLemmas.{some_judged}
use Rattle.replay_window.proofs.window.Window.judge.Goals as goal

pub returns-clause-each : goal.returns-clause-each
returns-clause-each c = λ numbers stands.
    c.judge_by.ensures numbers (subst (StandsFor numbers) (sym c.self.view_is) stands)

pub returns-clause-some : goal.returns-clause-some
returns-clause-some c =
    some_judged c.args.self.now c.args.number c.judge_by.result
    (subst IsWindow c.self.view_is c.self.invariant)
    (λ numbers stands. c.judge_by.ensures numbers (subst (StandsFor numbers) (sym c.self.view_is) stands))
