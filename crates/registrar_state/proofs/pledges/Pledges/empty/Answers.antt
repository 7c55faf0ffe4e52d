use Rattle.std.proofs.Common.{[], ℕ, List, length, ap, subst, sym, arith}
use Rattle.rekey_core.specs.declared.waiter.Waiter.{Waiter}
use Rattle.registrar_state.specs.declared.pledges.LastGrant.{LastGrant}
use Rattle.registrar_state.specs.Pledges.{KnowPledges, room_of, limit_of}
use Rattle.registrar_state.proofs.PledgeSteps.{Known, known_empty}
use Rattle.registrar_state.proofs.pledges.Pledges.empty.Goals as goal

pub returns-clause-empty : goal.returns-clause-empty
unfolding KnowPledges
returns-clause-empty c =
    let made = c.in_ok-made.made in
    let known = subst (λ (l : List LastGrant). Known [] l made.holders []) (sym c.in_ok-made.ensures.none) (known_empty made.holders c.in_ok-made.ensures.unknown) in
    subst (λ (q : List Waiter). Known [] made.grants.items made.holders q) (sym c.in_ok-made.ensures.queue) known

pub returns-clause-room : goal.returns-clause-room
unfolding room_of
returns-clause-room c = c.in_ok-made.ensures.room

pub returns-clause-limit : goal.returns-clause-limit
unfolding limit_of
returns-clause-limit c = let none = ap length c.in_ok-made.ensures.none in omega (arith, none, c.in_ok-made.ensures.room)
