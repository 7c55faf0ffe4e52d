use Rattle.std.proofs.Common.{◌≡◌, ◌≤◌, ◌<◌, ◌-◌, ◌^◌}
use Rattle.rekey_core.proofs.maxima.leaves_for.Given as goal

abbrev pub invariant-loop-leaves : goal.invariant-loop-leaves
invariant-loop-leaves l = record { power : l.leaves ≡ 2 ^ l.levels; some : 1 ≤ l.leaves; small : l.leaves < 2 ^ 33; levels : l.levels < 33 }

abbrev pub decreases-loop-leaves : goal.decreases-loop-leaves
decreases-loop-leaves l = 2 ^ 33 - l.leaves
