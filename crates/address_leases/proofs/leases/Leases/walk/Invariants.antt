use Rattle.std.proofs.Common.{ℕ, ◌<◌, ◌≤◌}
use Rattle.address_leases.specs.Grants.{IsHeldByAnother}
use Rattle.address_leases.proofs.leases.Leases.walk.Given as goal

abbrev pub invariant-loop-address : goal.invariant-loop-address
invariant-loop-address l = (b : ℕ) → l.first ≤ b → b < l.address → IsHeldByAnother l.self.grants l.now b l.id
