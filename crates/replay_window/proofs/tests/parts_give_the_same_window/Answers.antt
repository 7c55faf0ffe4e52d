use Rattle.std.proofs.Common.{arith, lit<}
use Rattle.std.proofs.lemmas.Nat.Bits.{bit_at_above}
use Rattle.replay_window.proofs.tests.parts_give_the_same_window.Goals as goal

pub of_parts-window-requires-clause-none_above : goal.of_parts-window-requires-clause-none_above
of_parts-window-requires-clause-none_above g c = λ i above. bit_at_above 2147483649 32 i (lit< tt) (omega arith)
