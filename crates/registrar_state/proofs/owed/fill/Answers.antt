use Rattle.std.proofs.Common.{◌≡◌, ◌<◌, [], arith, ◌∙◌, take, get_or, length}
use Rattle.std.proofs.lemmas.List.{get_or_default}
use Rattle.registrar_state.specs.declared.pledges.LastGrant.{LastGrant}
use Rattle.registrar_state.proofs.PledgeWaits.{above_all, from_next, waiting_next}
use Rattle.registrar_state.proofs.owed.fill.Goals as goal

pub add-requires-clause-above : goal.add-requires-clause-above
add-requires-clause-above c =
    above_all c.args.grants.now c.loop-place.place c.loop-place.queue.waiters _ c.requires.ascend (omega (arith, c.loop-place-test.true))
    c.loop-place.invariant.from

pub loop-place-preserved : goal.loop-place-preserved
loop-place-preserved c =
    let xs = c.args.grants.now in
    let k = c.loop-place.place in
    let x : LastGrant = get_or xs k (record { id = record { 0 = [] }; context = 0; address = 0; until = 0 }) in
    let small : k < length xs = omega (arith, c.loop-place-test.true) in
    let at : (d : LastGrant) → get_or xs k d ≡ x = λ d. get_or_default xs k d (record { id = record { 0 = [] }; context = 0; address = 0; until = 0 }) small in
    let was = c.loop-place.invariant in
    let new = c.add.new.queue.waiters in
    record {
      waiting = waiting_next xs k new x c.args.holders.now c.args.epoch small (at x) (c.add.ensures.waiting (take k xs) was.waiting);
      from = from_next xs k c.loop-place.queue.waiters new x small at c.add.ensures.added was.from;
      few = let more = c.add.ensures.few in let few = was.few in omega (arith, more, few);
      limit = c.add.ensures.limit ∙ was.limit;
    }
