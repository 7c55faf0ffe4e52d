use Rattle.std.proofs.Common.{◌≡◌, ◌+◌, ◌*◌, ◌++◌, length}
use Rattle.std.specs.List.{flat_map, AllByRecursion}
use Rattle.journal_text.specs.Text.{id_text}
use Rattle.journal_text.proofs.write.put_each_id.Given as goal

abbrev pub invariant-loop-rest : goal.invariant-loop-rest
invariant-loop-rest l = record {
  items : l.text.items ++ flat_map id_text l.rest ≡ l.fn.text.items ++ flat_map id_text l.ids;
  len : length l.text.items + 8 * length l.rest ≡ length l.fn.text.items + 8 * length l.ids;
  sized : AllByRecursion (λ x. length (id_text x) ≡ 8) l.rest → AllByRecursion (λ x. length (id_text x) ≡ 8) l.ids;
}

abbrev pub decreases-loop-rest : goal.decreases-loop-rest
decreases-loop-rest l = length l.rest
