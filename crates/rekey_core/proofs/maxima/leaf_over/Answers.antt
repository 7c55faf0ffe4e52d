use Rattle.rekey_core.proofs.TreeLemmas.{children_inside, next_level}
use Rattle.rekey_core.proofs.maxima.leaf_over.Goals as goal

pub child_over-node-requires : goal.child_over-node-requires
child_over-node-requires c =
    let first = c.loop-level.invariant in record {
      inside = (children_inside c.args.levels c.args.leaves c.loop-level.level c.loop-level.node c.args.tree.now c.requires.tree c.loop-level-test.true first.below).1;
    }

pub loop-level-preserved : goal.loop-level-preserved
loop-level-preserved c =
    let child = c.child_over-node.ensures in
    next_level c.args.levels c.args.leaves c.loop-level.level c.args.now c.loop-level.node c.child_over-node.result c.args.tree.now c.requires.tree
    c.loop-level-test.true c.loop-level.invariant child.either child.over child.before
