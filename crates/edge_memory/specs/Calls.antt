-- How calls are numbered, and which of them fail.
use Rattle.std.specs.Prelude.{◌≡◌, ℕ, ◌+◌, ◌-◌, ◌/◌, ◌^◌, min, ◌==◌, List, [], ◌∷◌, Option, None, Some, IsSome, Result, is_err, if◌then◌else◌}
use Rattle.edge_memory.specs.declared.calls.Calls.{Calls}
use Rattle.edge_memory.specs.declared.failing.FailingCall.{FailingCall}
use Rattle.edge_memory.specs.declared.failing.Part.{Part}
use Rattle.edge_memory.specs.declared.failing.Part.TheVariants.{Nothing, Half, All}

-- how many of these bytes a part is
abbrev pub part_size : Part → ℕ → ℕ
part_size Nothing count = 0
part_size Half count = count / 2
part_size All count = count

-- the calls of these numbers, each with this part
abbrev pub with_part : Part → List ℕ → List FailingCall
with_part part [] = []
with_part part (number ∷ numbers) = record { number = number; part = part } ∷ with_part part numbers

-- the part of its work that the call of this number does, where it is listed
abbrev pub listed_part : List FailingCall → ℕ → Option Part
listed_part [] number = None
listed_part (call ∷ calls) number = if call.number == number then Some call.part else listed_part calls number

-- no call was made, and these are listed
pub record IsFresh (failing : List FailingCall) (calls : Calls) : Type 0 where
  pub listed : calls.failing.items ≡ failing
  pub none_made : calls.next ≡ 0
  pub none_failed : calls.faults ≡ 0

-- the part of its work that the next call does, where it is listed
abbrev pub next_listed : Calls → Option Part
next_listed calls = listed_part calls.failing.items calls.next

-- the next call is one of those that are to fail
abbrev pub IsListed : Calls → Type 0
IsListed calls = IsSome (next_listed calls)

-- how many of its bytes the next call does where it fails: none, unless it is listed
abbrev pub failing_size : Option Part → ℕ → ℕ
failing_size None count = 0
failing_size (Some part) count = part_size part count

-- one more, up to the last value of 64 bits
abbrev pub counted_up : ℕ → ℕ
counted_up n = min (n + 1) (2 ^ 64 - 1)

-- one call was numbered, and counted where it failed
pub record Counts {T E : Type 0} (old new : Calls) (result : Result T E) : Type 0 where
  pub listed : new.failing.items ≡ old.failing.items
  pub made : new.next ≡ counted_up old.next
  pub failed : new.faults ≡ (if is_err result then counted_up old.faults else old.faults)
