use Rattle.std.proofs.Common.{◌≡◌, ◌∙◌, Some, refl, sym}
use Rattle.join_policy.specs.Rows.{row_of}
use Rattle.join_policy.proofs.Places.{row_within, row_there}
use Rattle.join_policy.proofs.inventory.Inventory.verdict.Goals as goal

pub row-requires : goal.row-requires
row-requires c = row_within c.args.id c.args.self.now.rows c.in-Some.at c.in-Some.ensures.exact

pub returns : goal.returns
returns c =
    let found : row_of c.args.id c.args.self.now.rows ≡ Some c.row.result =
    sym (row_there c.args.id c.args.self.now.rows c.in-Some.at c.in-Some.ensures.exact) ∙ c.row.ensures in
    rw (found, c.judge.ensures) refl
