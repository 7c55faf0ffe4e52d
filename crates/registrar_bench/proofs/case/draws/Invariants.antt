use Rattle.registrar_bench.proofs.case.draws.Given as goal

abbrev pub decreases-loop-left : goal.decreases-loop-left
decreases-loop-left l = l.left
