-- Lists of values and of rows, as loops over them grow them.
use Rattle.std.proofs.Common.{◌≡◌, suc, List, [], ◌∷◌, ◌++◌, length, Option, Some, None, Result, Ok, Err, refl, ap}
use Rattle.toml.specs.View.{items_view}
use Rattle.toml.specs.declared.value.Value.{Value}
use Rattle.join_policy.specs.declared.fault.InventoryFault.{InventoryFault}
use Rattle.join_policy.specs.declared.row.Row.{Row}
use Rattle.join_policy.specs.Values.{count_of}

pub count_of_view : (vs : List Value) → count_of (items_view vs) ≡ length vs
count_of_view [] = refl
count_of_view (v ∷ vs) = ap suc (count_of_view vs)

-- some elements and those of an option after them
abbrev pub after_some : {X : Type 0} → List X → Option (List X) → Option (List X)
after_some xs None = None
after_some xs (Some ys) = Some (xs ++ ys)

-- some rows and those of a result after them
abbrev pub after_rows : List Row → Result (List Row) InventoryFault → Result (List Row) InventoryFault
after_rows xs (Err e) = Err e
after_rows xs (Ok ys) = Ok (xs ++ ys)
