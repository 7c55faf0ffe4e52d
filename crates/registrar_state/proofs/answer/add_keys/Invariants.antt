use Rattle.std.proofs.Common.{◌≡◌, ◌≤◌, ◌++◌, ◌+◌, length, map}
use Rattle.join_history.specs.Answers.{link_key}
use Rattle.registrar_state.proofs.answer.add_keys.Given as goal

abbrev pub invariant-loop-rest : goal.invariant-loop-rest
invariant-loop-rest l =
    (l.keys.items ++ map link_key l.rest ≡ l.fn.keys.items ++ map link_key l.in_force) × (length l.keys.items + length l.rest ≤ 8)

abbrev pub decreases-loop-rest : goal.decreases-loop-rest
decreases-loop-rest l = length l.rest
