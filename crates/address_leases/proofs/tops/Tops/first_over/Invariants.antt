use Rattle.std.proofs.Common.{ℕ, ◌-◌, ◌<◌, ◌≤◌}
use Rattle.address_leases.specs.Indices.{IsTopOver, top_at}
use Rattle.address_leases.proofs.tops.Tops.first_over.Given as goal

abbrev pub invariant-loop-place : goal.invariant-loop-place
invariant-loop-place l =
    (l.first ≤ l.place)
    × ((b : ℕ) → l.first ≤ b → b < l.place → b < l.last → IsTopOver l.now (top_at l.self-inside.tops.items b) → ⊥)

abbrev pub decreases-loop-place : goal.decreases-loop-place
decreases-loop-place l = l.last - l.place
