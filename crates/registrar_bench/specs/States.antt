-- What the states that are measured must have, so that the calls may be made.
use Rattle.std.specs.Prelude.{ℕ, ◌+◌, ◌<◌, ◌≤◌}
use Rattle.registrar_state.specs.declared.state.RegState.{RegState}
use Rattle.registrar_state.specs.State.{IsEnrolled, HasSettings, spare_room}

-- there are settings, each context below this number is enrolled, and there is room for those up to 16,384
pub record AreEnrolled (state : RegState) (contexts : ℕ) : Type 0 where
  pub settings : HasSettings state
  pub each : (c : ℕ) → c < contexts → IsEnrolled state c
  pub room : 16384 ≤ contexts + (spare_room state).contexts
