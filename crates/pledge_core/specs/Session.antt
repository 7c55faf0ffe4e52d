-- What a pledge knows.
use Rattle.std.specs.Prelude.{ℕ, Option, None}
use Rattle.oscore_context.specs.Context.{Known}

-- the context; the next request's number; number and time of the last request; the updates that were taken, as the parts of
-- their window; and the address that is held, with the time up to which it is
pub record Session : Type 0 where
  pub context : Known
  pub next : ℕ
  pub asked : Option (ℕ × ℕ)
  pub window : Option (ℕ × ℕ)
  pub held : Option (ℕ × ℕ)

abbrev pub started : Known → Session
started c = record { context = c; next = 0; asked = None; window = None; held = None }
