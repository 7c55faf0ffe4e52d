use Rattle.std.proofs.Common.{List, subst}
use Rattle.std.specs.List.{AllZip}
use Rattle.registrar_state.specs.declared.contexts.Row.{Row}
use Rattle.registrar_state.specs.Summary.{IsContextOf}
use Rattle.registrar_state.proofs.SummaryLemmas.{summary_known}
use Rattle.registrar_state.proofs.state.RegState.summary.Goals as goal

pub returns : goal.returns
returns c =
    let state = c.args.self.now in
    let contexts = c.in_ok-contexts.contexts.items in
    let zip = subst (λ (rows : List Row). AllZip IsContextOf rows contexts) c.rows.ensures c.in_ok-contexts.ensures in
    λ h stands.
    summary_known state h c.copy_of_settings.result c.copy_of_phase.result contexts c.in_ok-grants.grants.items c.in_ok-nodes.nodes.items stands
    c.copy_of_settings.ensures c.copy_of_phase.ensures zip c.in_ok-grants.ensures.ascend c.in_ok-grants.ensures.each c.in_ok-nodes.ensures
