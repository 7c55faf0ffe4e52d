use Rattle.rekey_core.specs.Maxima.{IsFirstOver}
use Rattle.rekey_core.proofs.maxima.leaf_over.Given as goal

abbrev pub invariant-loop-level : goal.invariant-loop-level
invariant-loop-level l = IsFirstOver l.tree l.level l.now l.node
