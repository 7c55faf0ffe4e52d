use Rattle.std.proofs.Common.{subst, sym}
use Rattle.journal_text.specs.Codes.{IsReason}
use Rattle.registrar_state.proofs.state.RegState.is_true_reason.Goals as goal

pub returns-in-NoAddress : goal.returns-in-NoAddress
returns-in-NoAddress c = λ h stands. (
  λ yes. (subst IsReason (sym c.in-NoAddress.is) tt, λ _. (c.has_no_address.ensures h stands).0 yes),
  λ true_reason. (c.has_no_address.ensures h stands).1 (true_reason.1 c.in-NoAddress.is),
)
