-- The pledges that may still be owed the keys of an epoch, in order.
use Rattle.std.specs.Prelude.{◌≡◌, ℕ, ◌<◌, ◌≤◌, ◌==◌, if◌then◌else◌, List, Contains, length, get_or}
use Rattle.rekey_core.specs.declared.waiter.Waiter.{Waiter}

-- the pledges by ascending numbers, and how many fit in all
pub record Queued : Type 0 where
  pub waiters : List Waiter
  pub limit : ℕ

-- each number is below those after it
abbrev pub IsAscending : List Waiter → Type 0
IsAscending ws = (i j : ℕ) (d : Waiter) → i < j → j < length ws → (get_or ws i d).number < (get_or ws j d).number

-- the numbers at the places are the ends of the pledges, and 0 after them
pub record AreEnds (ws : List Waiter) (ends : List ℕ) : Type 0 where
  pub inside : length ws ≤ length ends
  pub each : (k : ℕ) (d : Waiter) → k < length ws → get_or ends k 0 ≡ (get_or ws k d).until
  pub past : (k : ℕ) → length ws ≤ k → get_or ends k 0 ≡ 0

pub record IsQueue (ws : List Waiter) (ends : List ℕ) (limit : ℕ) : Type 0 where
  pub ascending : IsAscending ws
  pub ends_are : AreEnds ws ends
  pub few : length ws ≤ limit
  pub places : limit ≤ length ends

-- the pledge of the number waits no more
abbrev pub ended : ℕ → Waiter → Waiter
ended n w = if w.number == n then record { number = w.number; until = 0 } else w

-- the pledge of the number waits no more, and each other one does as before
pub record Ends (n : ℕ) (old new : List Waiter) : Type 0 where
  pub same_length : length new ≡ length old
  pub each : (k : ℕ) (d : Waiter) → k < length old → get_or new k d ≡ ended n (get_or old k d)

-- the number is the least of those whose ends are after a time
pub record IsLeastAfter (ws : List Waiter) (now n : ℕ) : Type 0 where
  pub waiter : Waiter
  pub has : Contains ws waiter
  pub number : waiter.number ≡ n
  pub after : now < waiter.until
  pub least : (w : Waiter) → Contains ws w → now < w.until → n ≤ w.number

-- the number is at the place
abbrev pub IsPlaceOf : List Waiter → ℕ → ℕ → Type 0
IsPlaceOf ws n i = (i < length ws) × ((d : Waiter) → (get_or ws i d).number ≡ n)

-- the number is at no place
abbrev pub IsGapFor : List Waiter → ℕ → Type 0
IsGapFor ws n = (k : ℕ) (d : Waiter) → k < length ws → (get_or ws k d).number ≡ n → ⊥
