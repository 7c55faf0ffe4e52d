use Rattle.std.proofs.Common.{MatchOption, subst, ◌∙◌}
use Rattle.registrar_state.specs.Contexts.{Table, IsNewCheck, IsRowOf}
use Rattle.registrar_state.proofs.NumberLemmas.{found}
use Rattle.registrar_state.proofs.contexts.Contexts.find.Goals as goal

pub returns : goal.returns
returns c =
    subst (λ (t : Table). MatchOption c.copied.result (IsNewCheck t.rows c.args.check.now) (IsRowOf t.rows c.args.check.now)) c.self.view_is
    (found c.self.inside.rows.items c.self.inside.numbers.entries c.args.check.now c.copied.result c.self.invariant
    (c.copied.ensures ∙ c.get.ensures.value))
