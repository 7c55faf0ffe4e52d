use Rattle.std.specs.Mem.Slots.{slots_items}
use Rattle.seq_table.proofs.EndLemmas.{ends_with_one}
use Rattle.seq_table.proofs.table.close_words.Goals as goal

pub returns-in-Some-clause-ends : goal.returns-in-Some-clause-ends
returns-in-Some-clause-ends c =
    let closed = c.close_with.result in
    ends_with_one c.args.table.shared.key.items (slots_items closed.words) (slots_items closed.slots) c.in-Some.place.id c.in-Some.place.me.0 c.args.seats.items c.close_with.ensures.values.2 c.in-Some.ensures.1
