use Rattle.std.proofs.Common.{◌≡◌, ◌++◌, take, drop}
use Rattle.hkdf_sha256.specs.Hmac.{xor_each}
use Rattle.hkdf_sha256.proofs.block.xored.Given as goal

-- the bytes before the index are xored, the others are as they were
abbrev pub invariant-loop-byte : goal.invariant-loop-byte
invariant-loop-byte l = l.byte-items ≡ xor_each l.pad (take l.byte-index l.block) ++ drop l.byte-index l.block
