use Rattle.std.proofs.Common.{rules, of_calls}
use Rattle.rekey_core.proofs.QueueLemmas.{first_from, gap_at_end, gap_at_other}
use Rattle.rekey_core.proofs.queue.find.Goals as goal

pub returns-else-w-number-clause-finds : goal.returns-else-w-number-clause-finds
returns-else-w-number-clause-finds c = λ ascending.
    let first = first_from c.args.waiters.now c.args.number c.partition_point-place.result ascending
    c.partition_point-place.ensures.bound c.partition_point-place.ensures.partitioned (λ a r f k. search (rules, of_calls)) in
    gap_at_other c.args.waiters.now c.args.number c.partition_point-place.result c.in-Some.w.now ascending first (search rules) (search rules)
    (search rules)

pub returns-in-None-clause-finds : goal.returns-in-None-clause-finds
returns-in-None-clause-finds c = λ ascending.
    let first = first_from c.args.waiters.now c.args.number c.partition_point-place.result ascending
    c.partition_point-place.ensures.bound c.partition_point-place.ensures.partitioned (λ a r f k. search (rules, of_calls)) in
    gap_at_end c.args.waiters.now c.args.number c.partition_point-place.result first (search rules)
