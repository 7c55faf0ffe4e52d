use Rattle.std.proofs.Common.{◌≡◌, ◌+◌, ◌*◌, ◌++◌, length}
use Rattle.std.specs.List.{flat_map, AllByRecursion}
use Rattle.journal_text.specs.Text.{key_text}
use Rattle.journal_text.proofs.write.put_each_key.Given as goal

abbrev pub invariant-loop-rest : goal.invariant-loop-rest
invariant-loop-rest l = record {
  items : l.text.items ++ flat_map key_text l.rest ≡ l.fn.text.items ++ flat_map key_text l.keys;
  len : length l.text.items + 16 * length l.rest ≡ length l.fn.text.items + 16 * length l.keys;
  sized : AllByRecursion (λ x. length (key_text x) ≡ 16) l.rest → AllByRecursion (λ x. length (key_text x) ≡ 16) l.keys;
}

abbrev pub decreases-loop-rest : goal.decreases-loop-rest
decreases-loop-rest l = length l.rest
