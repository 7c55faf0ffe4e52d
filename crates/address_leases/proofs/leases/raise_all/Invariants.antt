use Rattle.std.proofs.Common.{ℕ, take}
use Rattle.address_leases.specs.Indices.{IsTopOf, top_at}
use Rattle.address_leases.proofs.leases.raise_all.Given as goal

abbrev pub invariant-loop-place : goal.invariant-loop-place
invariant-loop-place l = (a : ℕ) → IsTopOf (take l.place l.queue.grants) l.passed a (top_at l.tops a)
