use Rattle.std.proofs.Common.{◌≡◌, ◌-◌, [], length}
use Rattle.cbor_cojp.specs.Grammar.{times_at}
use Rattle.cbor_cojp.specs.Config.{refused_at}
use Rattle.cbor_cojp.proofs.config.read_ids.Given as goal

abbrev pub invariant-loop : goal.invariant-loop
invariant-loop l =
    (times_at refused_at (l.count - l.counter) l.ids.items l.reader.end l.reader.left
    ≡ times_at refused_at l.count [] l.fn.reader.end l.fn.reader.left)
    × (l.reader.end ≡ l.fn.reader.end) × (length l.ids.items ≡ l.counter)
