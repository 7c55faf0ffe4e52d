use Rattle.std.proofs.Common.{◌≡◌, ℕ, ◌<◌, ◌≤◌, get_or, bit_xor}
use Rattle.oscore_context.proofs.nonce.add.Given as goal

abbrev pub invariant-bytes : goal.invariant-bytes
invariant-bytes l = record {
  done : (k : ℕ) → k < l.i → get_or l.text k 0 ≡ bit_xor (get_or l.initial.text k 0) (get_or l.mask k 0);
  rest : (k : ℕ) → l.i ≤ k → get_or l.text k 0 ≡ get_or l.initial.text k 0;
}
