-- The context at the place of the identifier.
use Rattle.std.proofs.Common.{slice_index_or, subst}
use Rattle.edge_traits.specs.declared.names.PledgeId.{PledgeId}
use Rattle.registrar_tool.specs.Opened.{HasIdContext}
use Rattle.registrar_tool.proofs.ContextLemmas.{zip_at}
use Rattle.registrar_tool.proofs.decide.context_of.Goals as goal

pub returns-clause-found : goal.returns-clause-found
returns-clause-found c h all =
    let listed = c.in-Some.ensures.found in
    subst (λ (id : PledgeId). HasIdContext h id (slice_index_or c.args.contexts.now c.in-Some.place 0)) listed.1 (zip_at (HasIdContext h) c.args.ids.now c.args.contexts.now c.in-Some.place c.args.id 0 all listed.0)
