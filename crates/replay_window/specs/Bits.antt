-- What a step of the window does to its bits.
use Rattle.std.specs.Prelude.{◌≡◌, ℕ, ◌-◌, ◌<◌, ◌≤◌}
use Rattle.std.specs.Int.{bit_at}

-- bits that were moved up, with bit 0 set
pub record AreMovedUp (bits by moved : ℕ) : Type 0 where
  pub first : bit_at moved 0 ≡ 1
  pub between : (i : ℕ) → 0 < i → i < by → bit_at moved i ≡ 0
  pub kept : (i : ℕ) → by ≤ i → i < 32 → bit_at moved i ≡ bit_at bits (i - by)
  pub past : (i : ℕ) → 32 ≤ i → bit_at moved i ≡ 0

-- bits of which one was set
pub record AreMarked (bits place marked : ℕ) : Type 0 where
  pub set : bit_at marked place ≡ 1
  pub others : (i : ℕ) → (i ≡ place → ⊥) → bit_at marked i ≡ bit_at bits i
