use Rattle.std.proofs.Common.{sym, subst, rules, ◌++◌, ◌+◌, [], ◌∷◌, ◌≡◌, List, take}
use Rattle.std.specs.List.{AllZip}
use Rattle.journal_text.specs.declared.summary.SumContext.{SumContext}
use Rattle.registrar_state.specs.Summary.{IsContextOf}
use Rattle.registrar_state.proofs.SummaryLemmas.{zip_more}
use Rattle.registrar_state.proofs.summary.sum_contexts.Goals as goal

pub loop-row-preserved : goal.loop-row-preserved
loop-row-preserved c =
    let rows = c.args.rows.now in
    let contexts = c.loop-row.contexts.items in
    let made = c.sum_context.result in
    let pushed : c.push.new.self.items ≡ contexts ++ made ∷ [] = search rules in
    let P : List SumContext → Type 0 = λ xs. AllZip IsContextOf (take (c.loop-row.row-index + 1) rows) xs in
    subst P (sym pushed)
    (zip_more IsContextOf rows contexts c.loop-row.row-index c.row-item.result made (search rules) (search rules) c.loop-row.invariant c.sum_context.ensures)
