use Rattle.std.proofs.Common.{◌≡◌, length}
use Rattle.oscore_message.specs.PartialIv.{shortest}
use Rattle.oscore_message.proofs.partial_iv.without_zeros.Given as goal

abbrev pub invariant-loop-rest : goal.invariant-loop-rest
invariant-loop-rest l = shortest l.rest ≡ shortest l.bytes

abbrev pub decreases-loop-rest : goal.decreases-loop-rest
decreases-loop-rest l = length l.rest
