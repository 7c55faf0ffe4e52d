-- The bytes of two areas in memory.
use Rattle.std.specs.Prelude.{ℕ, ◌+◌, ◌≤◌, vec_len, vec_capacity}
use Rattle.edge_traits.specs.Disk.{Areas}
use Rattle.edge_memory.specs.declared.contents.Contents.{Contents}

abbrev pub areas_of : Contents → Areas
areas_of contents = record { left = contents.left.items; right = contents.right.items }

-- each area has room for this many more bytes
pub record HasRoom (contents : Contents) (room : ℕ) : Type 0 where
  pub left : vec_len contents.left + room ≤ vec_capacity contents.left
  pub right : vec_len contents.right + room ≤ vec_capacity contents.right
