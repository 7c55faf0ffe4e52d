-- A table and a seat as callers see them.
use Rattle.std.specs.Prelude.{ℕ, ◌+◌, ◌-◌, List, [], ◌∷◌, ◌++◌}
use Rattle.atomic_table.specs.Seated.{TableId}
use Rattle.seq_table.specs.declared.rule.Drawn.{Drawn}
use Rattle.seq_table.specs.Views.{numbers_of, drawn_from}

-- which table it is, and the number at which each context's word began
pub record Table : Type 0 where
  pub id : TableId
  pub bases : List ℕ

-- the seat's table, what it drew, in order, the splits that it has left, and the seats that it stands for
pub record SeatView : Type 0 where
  pub table : Table
  pub drawn : List Drawn
  pub splits : ℕ
  pub seats : ℕ

-- a seat that drew nothing
abbrev pub new_seat : Table → ℕ → SeatView
new_seat table splits = record { table = table; drawn = []; splits = splits; seats = 1 }

abbrev pub with_draw : SeatView → ℕ → ℕ → SeatView
with_draw seat context number = record { table = seat.table; drawn = seat.drawn ++ drawn_from context number ∷ []; splits = seat.splits; seats = seat.seats }

abbrev pub with_one_split_less : SeatView → SeatView
with_one_split_less seat = record { table = seat.table; drawn = seat.drawn; splits = seat.splits - 1; seats = seat.seats }

abbrev pub joined : SeatView → SeatView → SeatView
joined seat other = record { table = seat.table; drawn = seat.drawn ++ other.drawn; splits = seat.splits + other.splits; seats = seat.seats + other.seats }

-- the numbers of a context that these seats drew
abbrev pub numbers_over : ℕ → List SeatView → List ℕ
numbers_over context [] = []
numbers_over context (seat ∷ seats) = numbers_of context seat.drawn ++ numbers_over context seats

-- the seats that these stand for, and those that they may still make
abbrev pub parts_over : List SeatView → ℕ
parts_over [] = 0
parts_over (seat ∷ seats) = (seat.seats + seat.splits) + parts_over seats
