-- Rows by their identifiers.
use Rattle.std.specs.Prelude.{◌≡◌, ℕ, suc, Bool, List, [], ◌∷◌, ◌++◌, Option, Some, None, is_some, option_map, bytes_eq, slice_get, if◌then◌else◌}
use Rattle.edge_traits.specs.declared.names.PledgeId.{PledgeId}
use Rattle.join_policy.specs.declared.row.Row.{Row}

abbrev pub has_id : PledgeId → Row → Bool
has_id id row = bytes_eq row.id.0 id.0

-- the row with this identifier
abbrev pub row_of : PledgeId → List Row → Option Row
row_of id [] = None
row_of id (row ∷ rows) = if has_id id row then Some row else row_of id rows

-- the place of that row
abbrev pub place_of : PledgeId → List Row → Option ℕ
place_of id [] = None
place_of id (row ∷ rows) = if has_id id row then Some 0 else option_map suc (place_of id rows)

-- the identifier of the first of these rows that is in an earlier one
abbrev pub twice_after : List Row → List Row → Option PledgeId
twice_after before [] = None
twice_after before (row ∷ rows) =
    if is_some (place_of row.id before) then Some row.id else twice_after (before ++ row ∷ []) rows

-- the row at this place has the identifier
abbrev pub HasIdAt : PledgeId → List Row → ℕ → Type 0
HasIdAt id rows at = option_map (λ row. row.id) (slice_get rows at) ≡ Some id

-- no two places have one identifier
abbrev pub AreDistinct : List Row → Type 0
AreDistinct rows = (id : PledgeId) (i j : ℕ) → HasIdAt id rows i → HasIdAt id rows j → i ≡ j
