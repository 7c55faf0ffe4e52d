-- A lock, a pass, a holding and a closing as callers see them.
use Rattle.std.specs.Prelude.{◌≡◌, ℕ, Bool, true, false, List, [], ◌∷◌, ◌++◌}
use Rattle.atomic_table.specs.Seated.{TableId}
use Rattle.turn_lock.specs.declared.rule.Addition.{Addition}
use Rattle.turn_lock.specs.Views.{addition, numbers_of}

-- which lock it is, how many passes it has, and the value that it was made with
pub record LockView (V : Type 0) : Type 0 where
  pub id : TableId
  pub passes : ℕ
  pub opening : V

-- the pass's lock, the value that it saw last, what its own holdings added, in order, and whether it has the turn
pub record PassView (V : Type 0) : Type 0 where
  pub lock : LockView V
  pub seen : V
  pub own : List (Addition V)
  pub has_turn : Bool

-- the lock that is held, and the value
pub record HeldView (V : Type 0) : Type 0 where
  pub lock : LockView V
  pub value : V

-- the lock that is closed, and the passes that came back, the last one first
pub record ClosingView (V : Type 0) : Type 0 where
  pub lock : LockView V
  pub passes : List (PassView V)

-- the numbers of the reports that the pass owns
abbrev pub numbers_in : {V : Type 0} → PassView V → List ℕ
numbers_in pass = numbers_of pass.own

-- a pass that saw the opening value alone
abbrev pub new_pass : {V : Type 0} → LockView V → PassView V
new_pass lock = record { lock = lock; seen = lock.opening; own = []; has_turn = false }

-- a pass that has the turn, and so has seen the value as it was found
abbrev pub with_turn : {V : Type 0} → PassView V → V → PassView V
with_turn pass found = record { lock = pass.lock; seen = found; own = pass.own; has_turn = true }

-- a pass whose holding found what the pass saw last, and left this value: it owns the report of that number
abbrev pub with_report : {V : Type 0} → PassView V → ℕ → V → PassView V
with_report pass number value = record { lock = pass.lock; seen = value; own = pass.own ++ addition number pass.seen value ∷ []; has_turn = false }

-- the pass had one turn, which found the one value and left the other
pub record HadTurn {V : Type 0} (before : PassView V) (found left : V) (after : PassView V) : Type 0 where
  pub number : ℕ
  pub after_is : after ≡ with_report (with_turn before found) number left

-- the same pass, which saw this value last
abbrev pub with_seen : {V : Type 0} → PassView V → V → PassView V
with_seen pass seen = record { lock = pass.lock; seen = seen; own = pass.own; has_turn = pass.has_turn }

-- the same holding, of another value
abbrev pub held_with : {V : Type 0} → HeldView V → V → HeldView V
held_with held value = record { lock = held.lock; value = value }

-- one pass more came back
abbrev pub with_pass : {V : Type 0} → ClosingView V → PassView V → ClosingView V
with_pass closing pass = record { lock = closing.lock; passes = pass ∷ closing.passes }
