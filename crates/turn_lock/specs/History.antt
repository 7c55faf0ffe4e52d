-- All values that a lock reported, which pass owns which report, and in what order they came.
use Rattle.std.specs.Prelude.{◌≡◌, ◌≢◌, ℕ, ◌+◌, ◌<◌, List, [], ◌∷◌, ◌++◌, All, length}
use mathlib.Core.List.{IsPrefix}
use mathlib.Core.Logic.{◌⊎◌}
use Rattle.turn_lock.specs.declared.rule.Addition.{Addition}
use Rattle.turn_lock.specs.declared.rule.Returned.{Returned}
use Rattle.turn_lock.specs.declared.rule.View.{View}
use Rattle.turn_lock.specs.Report.{Report, Each, MayFollow, IsGrowing}
use Rattle.turn_lock.specs.Views.{numbers_of, places_of}
use Rattle.turn_lock.specs.Rule.{IsAdded}
use Rattle.seat_sums.specs.Counts.{times, once_within}
use Rattle.turn_lock.specs.Locks.{PassView}

-- what these passes own
abbrev pub own_over : {V : Type 0} → List (PassView V) → List (Addition V)
own_over [] = []
own_over (pass ∷ passes) = pass.own ++ own_over passes

-- the places that these passes own
abbrev pub places_over : {V I : Type 0} → (V → Report I) → List (PassView V) → List ℕ
places_over report passes = places_of report (own_over passes)

-- the value is one of these
pub record Among {V : Type 0} (all : List V) (value : V) : Type 0 where
  pub earlier : List V
  pub later : List V
  pub stands : earlier ++ value ∷ later ≡ all

-- the two are at two places of the list, in this order
pub record AtTwoPlaces {X : Type 0} (all : List X) (a b : X) : Type 0 where
  pub before : List X
  pub between : List X
  pub after : List X
  pub stands : before ++ (a ∷ between ++ b ∷ after) ≡ all

-- two additions that each raised the number left it at two different values
abbrev pub RaiseApart : {V : Type 0} → (V → ℕ) → List (Addition V) → Type 0
RaiseApart {V} number own = (a b : Addition V) → AtTwoPlaces own a b → number a.found < number a.left → number b.found < number b.left → number a.left ≢ number b.left

module _ {V I O : Type 0} (report : V → Report I) (origin : V → O) where
  -- the first addition has the lower number, and the second found what may follow what the first left
  abbrev pub ComesBefore : Addition V → Addition V → Type 0
  ComesBefore a b = (a.report < b.report) × MayFollow report origin a.left b.found

  -- of two additions one comes before the other
  abbrev pub IsOrdered : List (Addition V) → Type 0
  IsOrdered own = (a b : Addition V) → AtTwoPlaces own a b → ComesBefore a b ⊎ ComesBefore b a

  -- All values that were reported, from the opening one to the last, each of which may follow each before it.
  -- Each report past the first is owned once by one of these passes, with the value that it found and the one that it left, and each pass saw one of them last.
  pub record IsReported (opening final : V) (passes : List (PassView V)) : Type 0 where
    pub before : List V
    pub opens : IsPrefix (opening ∷ []) (before ++ final ∷ [])
    pub growing : IsGrowing report origin (before ++ final ∷ [])
    pub once : (number : ℕ) → times number (numbers_of (own_over passes)) ≡ once_within 1 (length before + 1) number
    pub added : All (λ pass. All (IsAdded (before ++ final ∷ [])) pass.own) passes
    pub seen : All (λ pass. Among (before ++ final ∷ []) pass.seen) passes

  -- what is known at the end of the seat of all passes, and of the value
  pub record EndsWith (opening final : V) (v : View V) : Type 0 where
    pub before : List V
    pub opens : IsPrefix (opening ∷ []) (before ++ final ∷ [])
    pub growing : IsGrowing report origin (before ++ final ∷ [])
    pub numbers : (number : ℕ) → times number (numbers_of v.own) ≡ once_within 1 (length before + 1) number
    pub places : (place : ℕ) → times place (places_of report v.own) ≡ once_within (length (report opening).items) (length (report final).items) place
    pub added : Each (IsAdded (before ++ final ∷ [])) v.own
    pub returned : Each (λ (back : Returned V). IsPrefix back.seen (before ++ final ∷ [])) v.returned
