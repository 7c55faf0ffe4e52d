-- What a list of numbers reports, and what adding a number makes of it.
use Rattle.std.specs.Prelude.{◌≡◌, ℕ, ◌+◌, ◌-◌, ◌^◌, List, [], ◌∷◌, ◌++◌, Option, MatchOption, length, max, min}
use Rattle.turn_lock.specs.declared.numbers.Numbers.{Numbers}
use Rattle.turn_lock.specs.Report.{Report, GrowsTo}
use Rattle.turn_lock.specs.Locks.{PassView, HadTurn}

abbrev pub report_of : Numbers → Report ℕ
report_of numbers = record { items = numbers.items.items; first = numbers.tries; second = numbers.most }

abbrev pub name_of : Numbers → ℕ
name_of numbers = numbers.name

-- the list ends with this number, at this place
abbrev pub IsLastAt : List ℕ → ℕ → ℕ → Type 0
IsLastAt items place number = (earlier : List ℕ) × (items ≡ earlier ++ number ∷ []) × (length earlier ≡ place)

-- the number was tried, and it is at the place if there is one
pub record IsPushed (before : Numbers) (number : ℕ) (place : Option ℕ) (after : Numbers) : Type 0 where
  pub items : MatchOption place (after.items.items ≡ before.items.items) (λ p. (p ≡ length before.items.items) × (after.items.items ≡ before.items.items ++ number ∷ []))
  pub tries : after.tries ≡ min (before.tries + 1) (2 ^ 64 - 1)
  pub most : after.most ≡ max before.most number
  pub name : after.name ≡ before.name

-- the pass had one turn, in which this one number was pushed
pub record AddedOne (before after : PassView Numbers) (number : ℕ) (place : Option ℕ) : Type 0 where
  pub found : Numbers
  pub left : Numbers
  pub turn : HadTurn before found left after
  pub grown : GrowsTo (report_of before.seen) (report_of found)
  pub pushed : IsPushed found number place left
