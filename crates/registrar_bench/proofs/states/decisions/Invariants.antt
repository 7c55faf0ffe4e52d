use Rattle.registrar_bench.proofs.states.decisions.Given as goal

abbrev pub decreases-loop-left : goal.decreases-loop-left
decreases-loop-left l = l.left
