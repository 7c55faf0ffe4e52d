use Rattle.std.proofs.Common.{◌≡◌, ℕ, ◌<◌, length}
use Rattle.std.specs.Prelude.{slice_index}
use Rattle.std.specs.Mem.Slots.{slots_items}
use Rattle.seq_table.proofs.table.read_words.Given as goal

abbrev pub invariant-loop-context : goal.invariant-loop-context
invariant-loop-context l = (length l.room.items ≡ length l.initial.room.items) × ((context : ℕ) → context < l.context → slice_index l.room.items context ≡ slice_index (slots_items l.closed.words) context)
