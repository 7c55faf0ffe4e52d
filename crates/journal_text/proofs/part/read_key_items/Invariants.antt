use Rattle.std.proofs.Common.{◌≡◌, ◌-◌, length}
use Rattle.journal_text.specs.Reading.{items_at, key_of}
use Rattle.journal_text.proofs.Loops.{with_prefix}
use Rattle.journal_text.proofs.part.read_key_items.Given as goal

abbrev pub invariant-loop-turn : goal.invariant-loop-turn
invariant-loop-turn l = record {
  counted : length l.keys.items ≡ l._turn;
  read : with_prefix l.keys.items (items_at key_of 16 (l.count - l._turn) l.end l.rest) ≡ items_at key_of 16 l.count l.end l.bytes;
}
