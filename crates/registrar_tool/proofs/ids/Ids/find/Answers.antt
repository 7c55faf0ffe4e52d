use Rattle.std.proofs.Common.{List, subst, ◌∙◌}
use Rattle.std.specs.Prelude.{Contains, IfSome, IfNone}
use Rattle.edge_traits.specs.declared.names.PledgeId.{PledgeId}
use Rattle.registrar_tool.specs.Opened.{IsListedAt}
use Rattle.registrar_tool.proofs.IdLemmas.{listed_at, not_listed}
use Rattle.registrar_tool.proofs.ids.Ids.find.Goals as goal

pub returns-clause-found : goal.returns-clause-found
returns-clause-found c =
    subst (λ (ids : List PledgeId). IfSome c.copied.result (IsListedAt ids c.args.id)) c.self.view_is
    (listed_at c.self.inside.ids.items c.self.inside.places.entries c.args.id c.copied.result c.self.invariant (c.copied.ensures ∙ c.get.ensures.value))

pub returns-clause-none : goal.returns-clause-none
returns-clause-none c =
    subst (λ (ids : List PledgeId). IfNone c.copied.result (Contains ids c.args.id → ⊥)) c.self.view_is
    (not_listed c.self.inside.ids.items c.self.inside.places.entries c.args.id c.copied.result c.self.invariant (c.copied.ensures ∙ c.get.ensures.value))
