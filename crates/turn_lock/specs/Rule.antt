-- The rule of the lock: what holds of its words, its slot and all views between any two steps.
use Rattle.std.specs.Prelude.{◌≡◌, ℕ, ◌+◌, ◌*◌, ◌^◌, ◌≤◌, true, false, List, [], ◌∷◌, ◌++◌, Option, Some, length, slice_index}
use mathlib.Core.Option as home
use mathlib.Core.List.{IsPrefix}
use mathlib.Core.Logic.{◌⊎◌}
use lib.ListN.{get_elem?}
use Rattle.atomic_table.specs.Table.{State}
use Rattle.seat_sums.specs.Counts.{times, once_within, total}
use Rattle.turn_lock.specs.declared.rule.Addition.{Addition}
use Rattle.turn_lock.specs.declared.rule.Returned.{Returned}
use Rattle.turn_lock.specs.declared.rule.View.{View}
use Rattle.turn_lock.specs.Report.{Report, Each, IsGrowing}
use Rattle.turn_lock.specs.Views.{numbers_of, places_of}

module _ {V : Type 0} where
  abbrev pub ticket_times : ℕ → View V → ℕ
  ticket_times x v = times x v.tickets

  abbrev pub ticket_count : View V → ℕ
  ticket_count v = length v.tickets

  abbrev pub number_times : ℕ → View V → ℕ
  number_times x v = times x (numbers_of v.own)

  abbrev pub number_count : View V → ℕ
  number_count v = length v.own

  abbrev pub place_times : {I : Type 0} → (V → Report I) → ℕ → View V → ℕ
  place_times report x v = times x (places_of report v.own)

  abbrev pub turns_of : View V → ℕ
  turns_of v = v.turns

  abbrev pub passes_of : View V → ℕ
  passes_of v = v.passes

  -- over all views, each number from `from` to below `to` occurs once, and no other occurs
  abbrev pub OnceEach : (ℕ → View V → ℕ) → ℕ → ℕ → List (View V) → Type 0
  OnceEach times_in from to views = (x : ℕ) → total (times_in x) views ≡ once_within from to x

  -- Either the value is in its slot, it is the last of all, and nobody has the turn; or the slot is empty, and a seat has the turn
  abbrev pub IsSlot : List (home.Option (Option V)) → V → List (View V) → Type 0
  IsSlot homes last views =
      ((homes ≡ home.some (Some last) ∷ []) × ((id : ℕ) (v : View V) → get_elem? views id ≡ home.some v → v.turn ≡ false))
      ⊎ ((homes ≡ home.none ∷ []) × ((id : ℕ) × (v : View V) × (get_elem? views id ≡ home.some v) × (v.turn ≡ true)))

  -- the report of that number among all of these found the value before it, and left the value that it is
  pub record IsAdded (all : List V) (a : Addition V) : Type 0 where
    pub earlier : List V
    pub later : List V
    pub stands : earlier ++ a.found ∷ a.left ∷ later ≡ all
    pub number : a.report ≡ length earlier + 1

  pub record Fits (turn : ℕ) (all : List V) (v : View V) : Type 0 where
    pub seen : IsPrefix v.seen all
    pub also : Each (λ (seen : List V). IsPrefix seen all) v.also
    -- the seat that has the turn has the ticket whose turn it is, and has seen all
    pub holds : v.turn ≡ true → (v.tickets ≡ turn ∷ []) × (v.seen ≡ all)
    pub own : Each (IsAdded all) v.own
    pub few : length v.own ≤ 2 ^ 47 * v.passes
    pub turns : v.turns ≤ 2 ^ 47 * v.passes
    pub waits : length v.tickets ≤ v.passes
    pub returned : Each (λ (back : Returned V). IsPrefix back.seen all) v.returned

  module _ {I O : Type 0} (report : V → Report I) (origin : V → O) where
    -- the rule over the ticket word, the turn word, the count word, the slot and the views, where the values reported are `before` and then `last`
    pub record Stands (passes : ℕ) (opening : V) (ticket turn count : ℕ) (homes : List (home.Option (Option V))) (views : List (View V)) (before : List V) (last : V) : Type 0 where
      pub tickets : OnceEach ticket_times turn ticket views
      pub waiting : turn + total ticket_count views ≡ ticket
      pub taken : total turns_of views ≡ ticket
      pub numbers : OnceEach number_times 1 count views
      pub counted : count ≡ 1 + total number_count views
      pub places : OnceEach (place_times report) (length (report opening).items) (length (report last).items) views
      pub list : count ≡ length before + 1
      pub opens : IsPrefix (opening ∷ []) (before ++ last ∷ [])
      pub growing : IsGrowing report origin (before ++ last ∷ [])
      pub slot : IsSlot homes last views
      pub all_passes : total passes_of views ≡ passes
      pub few : passes ≤ 65535
      pub fits : (id : ℕ) (v : View V) → get_elem? views id ≡ home.some v → Fits turn (before ++ last ∷ []) v

    -- the words are the ticket word, the turn word, the count word, and one for each pass to park on
    pub record IsKept (passes : ℕ) (opening : V) (s : State (Option V) (View V)) : Type 0 where
      pub before : List V
      pub last : V
      pub words : length s.words ≡ passes + 3
      pub stands : Stands passes opening (slice_index s.words 0) (slice_index s.words 1) (slice_index s.words 2) s.homes s.views before last
