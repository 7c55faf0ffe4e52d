use Rattle.std.proofs.Common.{◌≡◌, ◌-◌}
use Rattle.cbor_cojp.specs.Grammar.{times_at}
use Rattle.cbor_cojp.specs.Join.{fields_view, no_fields, join_field_at}
use Rattle.cbor_cojp.proofs.join.read_fields.Given as goal

abbrev pub invariant-loop : goal.invariant-loop
invariant-loop l =
    (times_at join_field_at (l.count - l.counter) (fields_view l.fields) l.reader.end l.reader.left
    ≡ times_at join_field_at l.count no_fields l.fn.reader.end l.fn.reader.left)
    × (l.reader.end ≡ l.fn.reader.end)
