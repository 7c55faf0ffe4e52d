-- The bits of a number that is moved up within 32 bits, and of 1.
use Rattle.std.proofs.Common.{◌≡◌, ℕ, ◌+◌, ◌-◌, ◌*◌, ◌/◌, ◌%◌, ◌<◌, ◌≤◌, sym, ap, ◌∙◌, arith, bit_or, w32}
use Rattle.std.specs.Prelude.{◌^◌}
use Rattle.std.specs.Int.{bit_at}
use Rattle.replay_window.specs.Bits.{AreMovedUp, AreMarked}
use Rattle.std.proofs.lemmas.Nat.{pow_pos}
use Rattle.std.proofs.lemmas.Nat.Bits.{bit_at_cat_low, bit_at_cat_high, bit_at-zero, bit_at-pow_same, bit_at-pow_other, bit_at_or, bit_at_above, bit_at_set_same, bit_at_set_other}

-- 1 has bit 0 alone
pub bit_at-one : (i : ℕ) → 0 < i → bit_at 1 i ≡ 0
bit_at-one i above = bit_at-pow_other 0 i (omega arith)

-- what is cut to a width keeps the bits below it
pub bit_at-cut : (n k i : ℕ) → i < k → bit_at (n % 2 ^ k) i ≡ bit_at n i
bit_at-cut n k i below =
    let whole : n / 2 ^ k * 2 ^ k + n % 2 ^ k ≡ n = grind arith in
    sym (bit_at_cat_low (n / 2 ^ k) k (n % 2 ^ k) i below) ∙ ap (λ m. bit_at m i) whole

-- below the move there is no bit
pub bit_at-moved_low : (n by i : ℕ) → i < 32 → i < by → bit_at (n * 2 ^ by % 4294967296) i ≡ 0
bit_at-moved_low n by i within below =
    bit_at-cut (n * 2 ^ by) 32 i within
    ∙ ap (λ m. bit_at m i) (omega arith)
    ∙ bit_at_cat_low n by 0 i below
    ∙ bit_at-zero i

-- from the move on there are the bits of before
pub bit_at-moved : (n by i : ℕ) → i < 32 → by ≤ i → bit_at (n * 2 ^ by % 4294967296) i ≡ bit_at n (i - by)
bit_at-moved n by i within above =
    bit_at-cut (n * 2 ^ by) 32 i within
    ∙ ap (λ m. bit_at m i) (omega arith)
    ∙ bit_at_cat_high n by 0 i (pow_pos by) above

-- `bits | 1 << place`
pub set_bit : (bits place : ℕ) → place < 32 → AreMarked bits place (bit_or bits (1 * 2 ^ place % 4294967296))
set_bit bits place within = record {
  set = bit_at_set_same w32 bits place within;
  others = λ i other. bit_at_set_other w32 bits place within i other;
}

-- `bits << by | 1`
pub shifted : (bits by : ℕ) → 0 < by → by < 32
    → AreMovedUp bits by (bit_or (bits * 2 ^ by % 4294967296) 1)
shifted bits by some within =
    let up = bits * 2 ^ by % 4294967296 in
    record {
      first = bit_at_or up 1 0 ∙ omega (arith, bit_at-moved_low bits by 0 (omega arith) some, bit_at-pow_same 0);
      between = λ i low high.
          bit_at_or up 1 i ∙ omega (arith, bit_at-moved_low bits by i (omega arith) high, bit_at-one i low);
      kept = λ i low high.
          bit_at_or up 1 i ∙ omega (arith, bit_at-moved bits by i high low, bit_at-one i (omega arith));
      past = λ i beyond.
          bit_at_or up 1 i
          ∙ omega (arith, bit_at_above up 32 i (omega arith) beyond, bit_at-one i (omega arith));
    }

-- all bits are moved past the 32nd place
pub all_shifted : (bits by : ℕ) → 32 ≤ by → AreMovedUp bits by 1
all_shifted bits by beyond = record {
  first = bit_at-pow_same 0;
  between = λ i low _. bit_at-one i low;
  kept = λ i low high. absurd (omega arith);
  past = λ i past. bit_at-one i (omega arith);
}
