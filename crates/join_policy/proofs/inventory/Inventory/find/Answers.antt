use Rattle.join_policy.proofs.Distinct.{cases_of}
use Rattle.join_policy.proofs.inventory.Inventory.find.Goals as goal

pub returns-clause-cases : goal.returns-clause-cases
returns-clause-cases c = cases_of c.args.id c.args.self.now.rows c.place_of.result c.place_of.ensures
