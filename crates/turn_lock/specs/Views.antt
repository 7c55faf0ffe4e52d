-- What a seat knows of its lock, and what each step makes of it.
use Rattle.std.specs.Prelude.{◌≡◌, ◌≢◌, ℕ, ◌+◌, ◌-◌, ◌<◌, ◌≤◌, true, false, List, [], ◌∷◌, ◌++◌, Option, Some, All, map, length, zero, suc, nat_le, if◌then◌else◌}
use mathlib.Core.List.{IsPrefix}
use Rattle.atomic_table.specs.Table.{Me, Step}
use Rattle.turn_lock.specs.declared.rule.Addition.{Addition}
use Rattle.turn_lock.specs.declared.rule.View.{View}
use Rattle.turn_lock.specs.Report.{Report, Each, MayFollow, IsGrowing}

abbrev pub addition : {V : Type 0} → ℕ → V → V → Addition V
addition report found left = record { report = report; found = found; left = left }

-- the `n` numbers from `from` on
abbrev pub run : ℕ → ℕ → List ℕ
run from zero = []
run from (suc n) = from ∷ run (from + 1) n

-- the numbers of the reports
abbrev pub numbers_of : {V : Type 0} → List (Addition V) → List ℕ
numbers_of own = map (λ a. a.report) own

-- the places that were added to the list
abbrev pub places_of : {V I : Type 0} → (V → Report I) → List (Addition V) → List ℕ
places_of report [] = []
places_of report (a ∷ own) = run (length (report a.found).items) (length (report a.left).items - length (report a.found).items) ++ places_of report own

-- the last value, or the opening one where there is none
abbrev pub last_or : {V : Type 0} → V → List V → V
last_or opening [] = opening
last_or opening (v ∷ vs) = last_or v vs

module _ {V : Type 0} where
  -- the one seat of a new table, which counts for all passes
  abbrev pub first_view : ℕ → V → View V
  first_view passes opening = record { seen = opening ∷ []; also = []; own = []; tickets = []; turn = false; turns = 0; passes = passes; returned = [] }

  abbrev pub with_ticket : View V → ℕ → View V
  with_ticket v ticket = record { seen = v.seen; also = v.also; own = v.own; tickets = ticket ∷ []; turn = false; turns = v.turns + 1; passes = v.passes; returned = v.returned }

  -- the seat has the turn, and has seen all values
  abbrev pub at_turn : View V → List V → View V
  at_turn v all = record { seen = all; also = v.also; own = v.own; tickets = v.tickets; turn = true; turns = v.turns; passes = v.passes; returned = v.returned }

  abbrev pub with_value : View V → V → Addition V → View V
  with_value v value a = record { seen = v.seen ++ value ∷ []; also = v.also; own = v.own ++ a ∷ []; tickets = v.tickets; turn = v.turn; turns = v.turns; passes = v.passes; returned = v.returned }

  abbrev pub without_ticket : View V → View V
  without_ticket v = record { seen = v.seen; also = v.also; own = v.own; tickets = []; turn = false; turns = v.turns; passes = v.passes; returned = v.returned }

  abbrev pub less_a_pass : View V → View V
  less_a_pass v = record { seen = v.seen; also = v.also; own = v.own; tickets = v.tickets; turn = v.turn; turns = v.turns; passes = v.passes - 1; returned = v.returned }

  abbrev pub one_pass : View V → View V
  one_pass v = record { seen = v.seen; also = []; own = []; tickets = []; turn = false; turns = 0; passes = 1; returned = [] }

  -- a seat that counts for no pass and owns nothing: it only knows these values
  abbrev pub listener : List V → View V
  listener seen = record { seen = seen; also = []; own = []; tickets = []; turn = false; turns = 0; passes = 0; returned = [] }

  abbrev pub spent_view : View V
  spent_view = listener []

  abbrev pub listens : View V → View V
  listens v = listener v.seen

  abbrev pub longer : List V → List V → List V
  longer xs ys = if nat_le (length xs) (length ys) then ys else xs

  -- a seat that has learnt the values that another had seen. One that has the turn has seen all itself
  abbrev pub heard : View V → View V → View V
  heard v w = record { seen = if v.turn then v.seen else longer v.seen w.seen; also = v.seen ∷ w.seen ∷ []; own = v.own; tickets = v.tickets; turn = v.turn; turns = v.turns; passes = v.passes; returned = v.returned }

  -- one seat for two, where the second is that of a pass that is handed in
  abbrev pub both_views : View V → View V → View V
  both_views v w = record { seen = longer v.seen w.seen; also = []; own = w.own ++ v.own; tickets = []; turn = false; turns = v.turns + w.turns; passes = v.passes + w.passes; returned = record { seen = w.seen; own = w.own } ∷ v.returned }

  -- What a seat learns by drawing a ticket: the number is the caller's ticket
  abbrev pub Draws : Step (Option V) → Me (Option V) (View V) → ℕ → Me (Option V) (View V) → Type 0
  Draws at before number after = after ≡ (with_ticket before.0 number, before.1)

  -- What a seat learns by a step that changes no view
  abbrev pub Stays : Step (Option V) → Me (Option V) (View V) → ℕ → Me (Option V) (View V) → Type 0
  Stays at before number after = after ≡ before

  -- What a seat learns by leaving: the value is back in its slot
  abbrev pub Leaves : Step (Option V) → Me (Option V) (View V) → ℕ → Me (Option V) (View V) → Type 0
  Leaves at before number after = after ≡ (without_ticket before.0, [])

  -- What a new seat knows, which counts for no pass
  abbrev pub Comes : Step (Option V) → Me (Option V) (View V) → ℕ → Me (Option V) (View V) → Type 0
  Comes at before number after = after ≡ (spent_view, [])

  module _ {I O : Type 0} (report : V → Report I) (origin : V → O) where
    -- the seat has taken the value, the last of all, which may follow each value that the seat had seen
    pub record Took (before after : Me (Option V) (View V)) : Type 0 where
      pub earlier : List V
      pub value : V
      pub after_is : after ≡ (at_turn before.0 (earlier ++ value ∷ []), (0, Some value) ∷ [])
      pub follows : All (λ v. MayFollow report origin v value) before.0.seen

    -- What a seat learns by a look: the caller has the turn where the turn is its ticket, and else all is as before
    abbrev pub Looks : Step (Option V) → Me (Option V) (View V) → ℕ → Me (Option V) (View V) → Type 0
    Looks at before found after =
        (before.0.tickets ≡ found ∷ [] → Took before after)
        × (before.0.tickets ≢ found ∷ [] → after ≡ before)

    -- What a seat learns by advancing, where the seat holds `value` and the last that it saw is `found`: the report's number is new, and the report and the places that it added are the caller's
    abbrev pub Reported : Step (Option V) → Me (Option V) (View V) → ℕ → Me (Option V) (View V) → Type 0
    Reported at before number after = (earlier : List V) (found value : V) → before.0.seen ≡ earlier ++ found ∷ [] → before.1 ≡ (0, Some value) ∷ []
        → (after ≡ (with_value before.0 value (addition number found value), before.1)) × (1 ≤ number) × All (λ n. n < number) (numbers_of before.0.own)

    -- the lists that the seat knows of are prefixes of one list, in which each value follows each before it. One that has the turn has seen it whole
    pub record IsOne (v : View V) : Type 0 where
      pub all : List V
      pub growing : IsGrowing report origin all
      pub seen : IsPrefix v.seen all
      pub also : Each (λ (seen : List V). IsPrefix seen all) v.also
      pub whole : v.turn ≡ true → v.seen ≡ all

    -- What a seat learns by recalling
    abbrev pub Recalls : Step (Option V) → Me (Option V) (View V) → ℕ → Me (Option V) (View V) → Type 0
    Recalls at before number after = (after ≡ before) × IsOne before.0
