use Rattle.std.proofs.Common.{◌≡◌, ◌-◌}
use Rattle.cbor_cojp.specs.Grammar.{times_at}
use Rattle.cbor_cojp.specs.Join.{triple_at}
use Rattle.cbor_cojp.proofs.join.read_triples.Given as goal

abbrev pub invariant-loop : goal.invariant-loop
invariant-loop l =
    (times_at (λ before. triple_at) (l.count - l.counter) tt l.reader.end l.reader.left
    ≡ times_at (λ before. triple_at) l.count tt l.fn.reader.end l.fn.reader.left)
    × (l.reader.end ≡ l.fn.reader.end)
