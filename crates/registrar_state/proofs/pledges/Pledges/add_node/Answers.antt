use Rattle.std.proofs.Common.{◌≤◌, ◌+◌, ◌-◌, List, length, ap, sym, subst, arith, [], ◌∷◌}
use Rattle.std.proofs.lemmas.List.{length-append}
use Rattle.registrar_state.specs.declared.pledges.LastGrant.{LastGrant}
use Rattle.registrar_state.specs.LastGrants.{unheld}
use Rattle.registrar_state.specs.Pledges.{limit_of}
use Rattle.registrar_state.specs.Restore.{last_in}
use Rattle.registrar_state.proofs.PledgeRoom.{unheld_push}
use Rattle.registrar_state.proofs.pledges.Pledges.add_node.Goals as goal

pub invariant_of-self : goal.invariant_of-self
invariant_of-self c =
    let old = c.args.self.now in
    let x = last_in c.args.node.now in record {
      reserved = omega (arith, c.push_reserved.ensures.len, c.push_reserved.ensures.capacity, old.reserved, c.requires);
      queued =
          let len = ap length c.push_reserved.ensures.items in
          let more = length-append old.grants.items (x ∷ []) in
          let fits = old.queued in omega (arith, len, more, fits, c.requires);
      held = subst (λ (l : List LastGrant). unheld c.restore.new.self l + (old.room - 1) ≤ c.restore.new.self.room) (sym c.push_reserved.ensures.items)
          (unheld_push old.holders c.restore.new.self _ old.grants.items x (old.room - 1) c.restore.ensures
          (let fits = old.held in omega (arith, fits, c.requires)));
    }

pub returns-clause-limit : goal.returns-clause-limit
unfolding limit_of
returns-clause-limit c =
    let grants = c.args.self.now.grants.items in
    let len = ap length c.push_reserved.ensures.items in
    omega (arith, len, length-append grants (last_in c.args.node.now ∷ []), c.requires)
