-- What a pass keeps of its seat, and what a turn makes of it.
use Rattle.std.specs.Prelude.{◌≡◌, ℕ, ◌+◌, ◌^◌, ◌<◌, ◌≤◌, true, false, List, [], ◌∷◌, ◌++◌, Option, None, All, map, length}
use Rattle.atomic_table.specs.Table.{Me}
use Rattle.atomic_table.specs.Seated.{TableId}
use Rattle.turn_lock.specs.declared.rule.Returned.{Returned}
use Rattle.turn_lock.specs.declared.rule.View.{View}
use Rattle.turn_lock.specs.declared.rule.Start.{Start}
use Rattle.turn_lock.specs.Locks.{LockView, PassView}
use Rattle.turn_lock.specs.Report.{Report, Each, MayFollow}
use Rattle.turn_lock.specs.Views.{addition, numbers_of, last_or, with_ticket, at_turn, with_value, without_ticket}
use Rattle.turn_lock.specs.History.{own_over}

-- three words, one more for each pass, and the slot
abbrev pub IsLaid : TableId → ℕ → Type 0
IsLaid id passes = (id.words ≡ passes + 3) × (id.slots ≡ 1)

module _ {V : Type 0} where
  -- the lock as callers see it
  abbrev pub lock_of : TableId → Start V → LockView V
  lock_of id start = record { id = id; passes = start.passes; opening = start.opening.value }

  -- the value is the last that the seat saw
  abbrev pub IsLast : List V → V → Type 0
  IsLast seen value = (earlier : List V) × (seen ≡ earlier ++ value ∷ [])

  -- the last value that the seat saw
  abbrev pub last_seen : Start V → View V → V
  last_seen start v = last_or start.opening.value v.seen

  -- a pass as callers see it
  abbrev pub pass_of : TableId → Start V → View V → PassView V
  pass_of id start v = record { lock = lock_of id start; seen = last_seen start v; own = v.own; has_turn = v.turn }

  -- the seat has no ticket
  abbrev pub IsIdle : ℕ → Me (Option V) (View V) → Type 0
  IsIdle turns me = (me.0.tickets ≡ []) × (me.1 ≡ []) × (length me.0.own ≤ turns)

  -- the seat has a turn that it hasn't reported, and the value is out of its slot
  abbrev pub IsHolding : ℕ → Me (Option V) (View V) → Type 0
  IsHolding turns me = (me.1 ≡ (0, None) ∷ []) × (length me.0.own < turns)

  pub record IsSeated {O : Type 0} (origin : V → O) (start : Start V) (turns : ℕ) (me : Me (Option V) (View V)) : Type 0 where
    pub last : IsLast me.0.seen (last_seen start me.0)
    pub origin_is : origin (last_seen start me.0) ≡ origin start.opening.value
    pub one : me.0.passes ≡ 1
    pub counted : me.0.turns ≡ turns
    pub few : turns ≤ 2 ^ 47
    pub idle : me.0.turn ≡ false → IsIdle turns me
    pub holding : me.0.turn ≡ true → IsHolding turns me

  -- a pass that was handed in, as callers see it
  abbrev pub returned_pass : LockView V → Returned V → PassView V
  returned_pass lock back = record { lock = lock; seen = last_or lock.opening back.seen; own = back.own; has_turn = false }

  abbrev pub passes_back : LockView V → View V → List (PassView V)
  passes_back lock v = map (returned_pass lock) v.returned

  -- the seat counts for the passes that were handed in, and owns what they own
  pub record IsClosing (lock : LockView V) (me : Me (Option V) (View V)) : Type 0 where
    pub own : me.0.own ≡ own_over (passes_back lock me.0)
    pub passes : me.0.passes ≡ length me.0.returned
    pub ended : (me.0.turn ≡ false) × (me.0.tickets ≡ []) × (me.1 ≡ [])
    pub last : Each (λ back. IsLast back.seen (last_or lock.opening back.seen)) me.0.returned

  -- a seat that had no ticket has the turn, and the value is out with it
  pub record TookTurn {I O : Type 0} (report : V → Report I) (origin : V → O) (value : V) (before after : Me (Option V) (View V)) : Type 0 where
    pub ticket : ℕ
    pub earlier : List V
    pub after_is : after ≡ (at_turn (with_ticket before.0 ticket) (earlier ++ value ∷ []), (0, None) ∷ [])
    pub follows : All (λ v. MayFollow report origin v value) before.0.seen

  -- the seat has a report more, of a number above all that it had
  pub record Reports (found value : V) (before after : Me (Option V) (View V)) : Type 0 where
    pub number : ℕ
    pub after_is : after ≡ (with_value before.0 value (addition number found value), before.1)
    pub past_first : 1 ≤ number
    pub rising : All (λ n. n < number) (numbers_of before.0.own)

  -- the same, and the turn is ended
  pub record EndedTurn (found value : V) (before after : Me (Option V) (View V)) : Type 0 where
    pub number : ℕ
    pub after_is : after ≡ (without_ticket (with_value before.0 value (addition number found value)), [])
    pub past_first : 1 ≤ number
    pub rising : All (λ n. n < number) (numbers_of before.0.own)
