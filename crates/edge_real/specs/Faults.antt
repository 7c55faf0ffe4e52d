-- Counts of faults.
use Rattle.std.specs.Prelude.{ℕ, ◌≡◌, ◌+◌, ◌-◌, ◌^◌, min, Result, is_err, if◌then◌else◌}

-- one more, up to the last value of 64 bits
abbrev pub counted_up : ℕ → ℕ
counted_up count = min (count + 1) (2 ^ 64 - 1)

-- a call was counted where it failed
abbrev pub Counts : {T E : Type 0} → ℕ → ℕ → Result T E → Type 0
Counts old new result = new ≡ (if is_err result then counted_up old else old)
