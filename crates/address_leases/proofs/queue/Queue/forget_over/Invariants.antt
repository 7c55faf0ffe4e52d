use Rattle.std.proofs.Common.{◌≡◌, ◌+◌, filter, length, IsPermutation}
use Rattle.address_leases.specs.Steps.{is_kept}
use Rattle.address_leases.proofs.queue.Queue.forget_over.Given as goal

abbrev pub invariant-loop : goal.invariant-loop
invariant-loop l =
    IsPermutation (filter (is_kept l.time) l.initial.self.grants) (filter (is_kept l.time) l.self.grants)
    × (length l.self.grants + l.self.room ≡ length l.initial.self.grants + l.initial.self.room)

abbrev pub decreases-loop : goal.decreases-loop
decreases-loop l = length l.self.grants
