use Rattle.std.proofs.Common.{◌≡◌, ℕ, ◌<◌, get_or}
use Rattle.aes_ccm.proofs.ccm.is_same.Given as goal

abbrev pub invariant-bytes : goal.invariant-bytes
invariant-bytes l = record {
  same : l.difference ≡ 0 → (k : ℕ) → k < l.i → get_or l.tag k 0 ≡ get_or l.bytes k 0;
  zero : ((k : ℕ) → k < l.i → get_or l.tag k 0 ≡ get_or l.bytes k 0) → l.difference ≡ 0;
}
