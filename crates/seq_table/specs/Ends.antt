-- The end of a table, where seats are joined into one.
use Rattle.std.specs.Prelude.{◌≡◌, ◌≢◌, ℕ, ◌+◌, ◌<◌, ◌≤◌, List, All, AllPairs, length, slice_index}
use Rattle.seq_table.specs.declared.rule.View.{View}
use Rattle.seq_table.specs.Rule.{times_in, count_in, parts_of}
use Rattle.seat_sums.specs.Counts.{times}
use Rattle.seq_table.specs.Seats.{SeatView, numbers_over, parts_over}

-- the view has what all these seats drew, but for those that are left
pub record Gathers (v : View) (left all : List SeatView) : Type 0 where
  pub each : (context number : ℕ) → times number (numbers_over context left) + times_in context number v ≡ times number (numbers_over context all)
  pub counted : (context : ℕ) → length (numbers_over context left) + count_in context v ≡ length (numbers_over context all)
  pub parts : parts_over left + parts_of v ≡ parts_over all

-- what is known of these seats' draws once the words have these values
pub record EndsWith (bases words : List ℕ) (seats : List SeatView) : Type 0 where
  pub distinct : (context : ℕ) → context < length bases → AllPairs (λ m n. m ≢ n) (numbers_over context seats)
  pub within : (context : ℕ) → context < length bases → All (λ n. (slice_index bases context ≤ n) × (n < slice_index words context)) (numbers_over context seats)
  pub counted : (context : ℕ) → context < length bases → slice_index bases context + length (numbers_over context seats) ≤ slice_index words context
  pub whole : parts_over seats ≡ 65535 → (context : ℕ) → context < length bases → slice_index words context ≡ slice_index bases context + length (numbers_over context seats)
