-- The rule of the table: what holds of its words and of all views between any two steps.
use Rattle.std.specs.Prelude.{◌≡◌, ℕ, ◌+◌, ◌*◌, ◌^◌, ◌<◌, ◌≤◌, List, All, length, slice_index}
use mathlib.Core.Option.{some}
use lib.ListN.{get_elem?}
use Rattle.atomic_table.specs.Table.{State}
use Rattle.seat_sums.specs.Counts.{times, once_within, total}
use Rattle.seq_table.specs.declared.rule.View.{View}
use Rattle.seq_table.specs.Views.{numbers_of}

-- how often a number of a context occurs in a view
abbrev pub times_in : ℕ → ℕ → View → ℕ
times_in context number v = times number (numbers_of context v.drawn)

-- how many numbers of a context are in a view
abbrev pub count_in : ℕ → View → ℕ
count_in context v = length (numbers_of context v.drawn)

-- the seats that a view stands for, and those that it may still make
abbrev pub parts_of : View → ℕ
parts_of v = v.seats + v.splits

-- a view has at most 2^24 draws for each seat that it stands for
abbrev pub Fits : List ℕ → View → Type 0
Fits bases v = (length v.drawn ≤ 2 ^ 24 * v.seats) × (0 < v.seats → v.bases ≡ bases)

pub record IsKept {S : Type 0} (bases : List ℕ) (s : State S View) : Type 0 where
  -- a word for each context, and one more, which a split or a join loads
  pub words : length s.words ≡ length bases + 1
  pub low : All (λ base. base ≤ 2 ^ 40) bases
  -- over all views, each number from a context's base to below its word occurs once, and no other occurs at all
  pub once : (context number : ℕ) → context < length bases → total (times_in context number) s.views ≡ once_within (slice_index bases context) (slice_index s.words context) number
  pub counted : (context : ℕ) → context < length bases → slice_index s.words context ≡ slice_index bases context + total (count_in context) s.views
  pub parts : total parts_of s.views ≡ 65535
  pub views : (id : ℕ) (v : View) → get_elem? s.views id ≡ some v → Fits bases v
