use Rattle.std.proofs.Common.{◌≡◌, get_or, ap, ◌∙◌, sym, subst}
use Rattle.replay_window.specs.Parts.{StandsFor}
use Rattle.registrar_state.specs.declared.contexts.Row.{Row}
use Rattle.registrar_state.specs.Contexts.{Table}
use Rattle.registrar_state.proofs.contexts.Contexts.decide.Goals as goal

pub take_request-requires : goal.take_request-requires
take_request-requires c =
    let row = c.index_mut.result.now in
    let is : row ≡ get_or c.args.self.now.rows c.args.context row =
    c.index_mut.ensures.value ∙ ap (λ (t : Table). get_or t.rows c.args.context row) c.self.view_is in
    let at = c.requires.fresh row in
    (at.0, subst (λ (r : Row). StandsFor at.0 r.window) (sym is) at.1, at.2)
