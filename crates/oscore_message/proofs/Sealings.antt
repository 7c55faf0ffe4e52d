-- Sealings are longer than a tag.
use Rattle.std.proofs.Common.{◌≡◌, ℕ, ◌≤◌, List, length, ap, arith}
use Rattle.aes_ccm.specs.Ccm.{sealed}
use Rattle.aes_ccm.proofs.SealedLemmas.{length-sealed}

pub not_short : (key nonce aad payload plain : List ℕ) → length payload ≤ 8 → 1 ≤ length plain
    → payload ≡ sealed key nonce aad plain → ⊥
not_short key nonce aad payload plain h some e = absurd (omega (arith, ap length e, length-sealed key nonce aad plain))
