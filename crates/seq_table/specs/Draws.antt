-- What a draw answers.
use Rattle.std.specs.Prelude.{◌≡◌, ℕ, ◌^◌, ◌<◌, ◌≤◌, Option, Some, None}
use Rattle.seq_table.specs.declared.draw.Draw.{Draw}
use Rattle.seq_table.specs.declared.draw.Draw.TheVariants.{Number, Spent, SeatFull}

-- the word's old value, where a step was made
abbrev pub number_of : Draw → Option ℕ
number_of (Number n) = Some n
number_of (Spent n) = Some n
number_of (SeatFull draws) = None

-- a number is `Spent` exactly where no message may bear it, and a seat is full at 2^24 draws
abbrev pub IsNamed : Draw → Type 0
IsNamed (Number n) = n < 2 ^ 40
IsNamed (Spent n) = 2 ^ 40 ≤ n
IsNamed (SeatFull draws) = draws ≡ 2 ^ 24
