use Rattle.std.proofs.Common.{rules, of_calls}
use Rattle.registrar_state.proofs.PledgeOrder.{first_from, gap_at_end, gap_before_other}
use Rattle.registrar_state.proofs.pledges.find.Goals as goal

pub returns-else-number_of-number-clause-finds : goal.returns-else-number_of-number-clause-finds
returns-else-number_of-number-clause-finds c = λ ascend.
    let first = first_from c.args.grants.now c.number_of-number.result c.partition_point-place.result ascend
    c.partition_point-place.ensures.bound c.partition_point-place.ensures.partitioned (λ a r f k. search (rules, of_calls)) in
    gap_before_other c.args.grants.now c.args.id c.number_of-number.result c.partition_point-place.result c.in-Some.x.now
    c.number_of-number.ensures.number ascend first (search rules) (search rules) (search rules)

pub returns-in-None-clause-finds : goal.returns-in-None-clause-finds
returns-in-None-clause-finds c = λ ascend.
    let first = first_from c.args.grants.now c.number_of-number.result c.partition_point-place.result ascend
    c.partition_point-place.ensures.bound c.partition_point-place.ensures.partitioned (λ a r f k. search (rules, of_calls)) in
    gap_at_end c.args.grants.now c.args.id c.number_of-number.result c.partition_point-place.result
    c.number_of-number.ensures.number first (search rules)
