-- How long items are.
use Rattle.std.proofs.Common.{ℕ, ◌≤◌, length, arith}
use Rattle.cbor_item.specs.declared.head.Major.{Major}
use Rattle.cbor_item.specs.Head.{head_text}
use Rattle.std.proofs.lemmas.Grind.{common_steps}

-- a head has at most 9 bytes
pub short_head : (major : Major) (n : ℕ) → length (head_text major n) ≤ 9
short_head major n = grind (arith, common_steps)
