use Rattle.std.proofs.Common.{◌≤◌, arith, Bor}
use Rattle.join_history.specs.Contexts.{context_count}
use Rattle.join_history.proofs.KnownLemmas.{enrolled_below}
use Rattle.registrar_state.specs.declared.contexts.Row.{Row}
use Rattle.registrar_state.specs.Contexts.{IsRow}
use Rattle.registrar_state.proofs.StateLemmas.{IsLegal-stands, some_result}
use Rattle.registrar_state.proofs.state.RegState.enrolled.Goals as goal

pub unwrap-requires : goal.unwrap-requires
unwrap-requires c =
    let h = c.requires.0 in
    let stands = c.requires.2 in
    some_result (context_count h ≤ c.args.context) (λ (row : Bor Row). IsRow h c.args.context row.now) c.row.result (c.row.ensures h stands) (λ past.
    let below = enrolled_below h c.args.context c.requires.1 (IsLegal-stands c.args.self.now h stands) c.requires.3 in
    omega (arith, past, below))
