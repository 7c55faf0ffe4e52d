-- The index of an inventory: each row's place under its identifier.
use Rattle.std.specs.Prelude.{◌≡◌, ℕ, List}
use Rattle.std.specs.BTreeMap.{BTreeMap, get}
use Rattle.std.specs.Cmp.Lexicographic.{slice_cmp}
use Rattle.std.specs.Ordering.{nat_cmp}
use Rattle.edge_traits.specs.declared.names.PledgeId.{PledgeId}
use Rattle.join_policy.specs.declared.row.Row.{Row}
use Rattle.join_policy.specs.Rows.{place_of}

-- what the index has at an identifier is the place of its row
abbrev pub IsIndexOf : BTreeMap (List ℕ) ℕ → List Row → Type 0
IsIndexOf index rows = (id : PledgeId) → get (slice_cmp nat_cmp) index id.0 ≡ place_of id rows
