use Rattle.std.proofs.Common.{◌≤◌, ℕ, List, get_or, subst, arith}
use Rattle.rekey_core.proofs.TreeLemmas.{none_over, root_read}
use Rattle.rekey_core.proofs.maxima.Maxima.first_over.Goals as goal

pub returns-else-index-now : goal.returns-else-index-now
returns-else-index-now c =
    let m = c.self.inside in
    let at = root_read m.levels m.leaves m.tree.items c.index.result.now c.self.invariant c.index.ensures in
    let none = none_over m.levels m.leaves m.tree.items c.args.now c.self.invariant (omega (arith, at, c.if-index-now.false)) in
    subst (λ (l : List ℕ). (k : ℕ) → get_or l k 0 ≤ c.args.now) c.self.view_is none
