use Rattle.std.proofs.Common.{◌≡◌, ◌-◌, ◌+◌, [], replicate, vec_len, vec_capacity}
use Rattle.turn_lock.specs.Views.{first_view}
use Rattle.turn_lock.specs.Seated.{lock_of}
use Rattle.turn_lock.specs.Locks.{new_pass}
use Rattle.turn_lock.proofs.new_table.split_passes.Given as goal

abbrev pub invariant-loop : goal.invariant-loop
invariant-loop g l = record {
  table : l.first.table_id ≡ l.words.table_id;
  me : l.first.me ≡ (first_view (l.start.passes + 1 - l.counter) l.start.opening.value, []);
  all : l.all.items ≡ replicate (l.counter - 1) (new_pass (lock_of l.words.table_id l.start));
  count : vec_len l.all ≡ l.counter - 1;
  room : vec_capacity l.all ≡ l.start.passes;
}
