use Rattle.std.proofs.Common.{sym, ◌∙◌}
use Rattle.std.proofs.lemmas.Bool.{false≢true}
use Rattle.registrar_state.proofs.StateLemmas.{known_of}
use Rattle.registrar_state.proofs.state.RegState.may_enroll.Goals as goal

pub returns-then-is_next_context : goal.returns-then-is_next_context
returns-then-is_next_context c = λ h stands.
    let next = c.is_next_context.ensures.0 c.if-is_next_context.true in
    let count = (known_of c.args.self.now h stands).rows.count in
    let new = c.is_new_check.ensures h stands in
    (λ yes. (next.0 ∙ c.len.ensures ∙ count, next.1, new.0 yes), λ may. new.1 may.2)

pub returns-else-is_next_context : goal.returns-else-is_next_context
returns-else-is_next_context c = λ h stands.
    let count = (known_of c.args.self.now h stands).rows.count in
    (λ yes. absurd (false≢true (sym c.if-is_next_context.false ∙ yes)), λ may. c.is_next_context.ensures.1 (may.0 ∙ sym count ∙ sym c.len.ensures, may.1))
