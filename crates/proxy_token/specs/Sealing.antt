-- What contracts see of a sealer.
use Rattle.std.specs.Prelude.{ℕ, List}

-- the bytes of the key, and the next counter
pub record Sealing : Type 0 where
  pub key : List ℕ
  pub count : ℕ
