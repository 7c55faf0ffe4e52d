use Rattle.join_history.specs.Summary.{Ascends}
use Rattle.registrar_state.specs.LastGrants.{IsBefore}
use Rattle.std.proofs.Common.{subst, sym, ap, ◌∙◌, ◌++◌, List, length, map, arith}
use Rattle.registrar_state.specs.declared.pledges.LastGrant.{LastGrant}
use Rattle.registrar_state.specs.Pledges.{KnowGrants, limit_of}
use Rattle.registrar_state.specs.Restore.{last_in}
use Rattle.registrar_state.proofs.PledgesRestored.{known_restored, ascend_in}
use Rattle.registrar_state.proofs.pledges.Pledges.of_nodes.Goals as goal

pub returns-clause-know : goal.returns-clause-know
unfolding KnowGrants
returns-clause-know c = λ h legal are.
    let nodes = c.args.nodes.now in
    let none = ap (λ (l : List LastGrant). l ++ map last_in nodes) c.in_ok-made.ensures.none in
    known_restored h nodes c.add_nodes.new.self.grants.items c.in_ok-made.made.holders c.add_nodes.new.self.holders
    legal are (c.add_nodes.ensures.grants ∙ none) c.add_nodes.ensures.epochs c.in_ok-made.ensures.unknown

pub returns-clause-ascend : goal.returns-clause-ascend
returns-clause-ascend c =
    let nodes = c.args.nodes.now in
    let none = ap (λ (l : List LastGrant). l ++ map last_in nodes) c.in_ok-made.ensures.none in
    subst (Ascends IsBefore) (sym (c.add_nodes.ensures.grants ∙ none)) (ascend_in nodes c.requires)

pub returns-clause-limit : goal.returns-clause-limit
unfolding limit_of
returns-clause-limit c =
    let none = ap length c.in_ok-made.ensures.none in
    omega (arith, none, c.in_ok-made.ensures.room, c.add_nodes.ensures.limit, c.max.ensures)
