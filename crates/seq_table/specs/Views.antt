-- What a seat knows of its table, and what each step makes of it.
use Rattle.std.specs.Prelude.{◌≡◌, ℕ, ◌+◌, ◌-◌, ◌<◌, ◌≤◌, List, [], ◌∷◌, ◌++◌, ◌==◌, All, map, filter, slice_index}
use Rattle.atomic_table.specs.Table.{Me, Step}
use Rattle.seq_table.specs.declared.rule.Drawn.{Drawn}
use Rattle.seq_table.specs.declared.rule.View.{View}

-- the numbers of a context among those drawn, in their order
abbrev pub numbers_of : ℕ → List Drawn → List ℕ
numbers_of context drawn = map (λ (d : Drawn). d.number) (filter (λ (d : Drawn). d.context == context) drawn)

abbrev pub drawn_from : ℕ → ℕ → Drawn
drawn_from context number = record { context = context; number = number }

-- the one seat of a new table may be split until there are 65,535
abbrev pub first_view : List ℕ → View
first_view bases = record { bases = bases; drawn = []; splits = 65534; seats = 1 }

abbrev pub with_number : View → ℕ → ℕ → View
with_number v context number = record { bases = v.bases; drawn = v.drawn ++ drawn_from context number ∷ []; splits = v.splits; seats = v.seats }

abbrev pub less_a_split : View → View
less_a_split v = record { bases = v.bases; drawn = v.drawn; splits = v.splits - 1; seats = v.seats }

abbrev pub split_off : View → View
split_off v = record { bases = v.bases; drawn = []; splits = 0; seats = 1 }

abbrev pub both_views : View → View → View
both_views v w = record { bases = v.bases; drawn = v.drawn ++ w.drawn; splits = v.splits + w.splits; seats = v.seats + w.seats }

abbrev pub spent_view : View
spent_view = record { bases = []; drawn = []; splits = 0; seats = 0 }

-- What a draw returns. The number is the caller's, no less than the context's base, and above all that it drew of this context.
abbrev pub Draws : {S : Type 0} → Step S → Me S View → ℕ → Me S View → Type 0
Draws at before number after =
    (after ≡ (with_number before.0 at.word number, before.1))
    × (slice_index before.0.bases at.word ≤ number)
    × All (λ n. n < number) (numbers_of at.word before.0.drawn)
