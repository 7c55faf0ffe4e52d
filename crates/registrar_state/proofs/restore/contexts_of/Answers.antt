use Rattle.std.proofs.Common.{◌<◌, ◌∷◌, [], ℕ, length, get_or, subst, sym, ap, ◌∙◌, arith}
use Rattle.std.proofs.lemmas.List.{length-append}
use Rattle.journal_text.specs.declared.summary.SumContext.{SumContext}
use Rattle.registrar_state.specs.Restore.{AreRowsFor}
use Rattle.registrar_state.proofs.ContextsRestored.{rows_for_push, same_context}
use Rattle.registrar_state.proofs.restore.contexts_of.Goals as goal

pub add-requires-clause-new_check : goal.add-requires-clause-new_check
add-requires-clause-new_check c = λ d row small same.
    let x = c.index-contexts-at.result in
    let known = (c.loop-at.invariant.rows.each d x row small).check in
    c.requires.readable.distinct d c.loop-at.at x (omega (arith, small, c.loop-at.invariant.count)) (omega (arith, c.loop-at-test.true))
    (sym known ∙ same ∙ c.row_of.ensures.check ∙ ap (λ (y : SumContext). y.check) c.index-contexts-at.is)

pub loop-at-preserved : goal.loop-at-preserved
loop-at-preserved c =
    let rows = c.loop-at.table.rows in
    let x = c.index-contexts-at.result in
    let inside : c.loop-at.at < length c.args.contexts.now = omega (arith, c.loop-at-test.true) in
    let count = c.loop-at.invariant.count in
    let more = length-append rows (c.row_of.result ∷ []) in
    let len = ap length c.add.ensures.rows in
    record {
      rows = subst (AreRowsFor c.args.contexts.now) (sym c.add.ensures.rows)
          (rows_for_push c.args.contexts.now rows x c.row_of.result c.loop-at.invariant.rows (omega (arith, inside, count))
          (λ d. ap (λ (k : ℕ). get_or c.args.contexts.now k d) count ∙ same_context c.args.contexts.now c.loop-at.at d x inside ∙ sym c.index-contexts-at.is) c.row_of.ensures);
      count = omega (arith, count, more, len);
      room = omega (arith, count, more, len, c.add.ensures.room, c.loop-at.invariant.room);
    }
