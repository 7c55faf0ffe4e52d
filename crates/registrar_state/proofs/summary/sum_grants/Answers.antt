use Rattle.std.proofs.Common.{◌≡◌, ◌↔◌, List, Contains, map, sym, ap, ◌∙◌, subst}
use Rattle.journal_text.specs.declared.summary.SumGrant.{SumGrant}
use Rattle.join_history.specs.Summary.{Ascends, IsGrantBefore}
use Rattle.registrar_state.specs.Summary.{IsKept, grant_of}
use Rattle.registrar_state.proofs.SummaryLemmas.{IfOk-map, grants_ascend, grants_kept}
use Rattle.registrar_state.proofs.summary.sum_grants.Goals as goal

pub returns-clause-ascend : goal.returns-clause-ascend
returns-clause-ascend c =
    let held = c.in_ok-held.held.items in
    let ordered = c.put_in_order.new.held.items in
    let are = c.in_ok-held.ensures in
    let told : c.deref.result.now ≡ ordered = c.deref.ensures.value in
    IfOk-map _ _ c.grants_of.result
    (λ grants is. subst (Ascends IsGrantBefore) (sym (is ∙ ap (map grant_of) told))
    (grants_ascend ordered (λ l has. are.numbered l ((c.put_in_order.ensures.same l).0 has)) c.put_in_order.ensures.ascend))
    c.grants_of.ensures

pub returns-clause-each : goal.returns-clause-each
returns-clause-each c =
    let held = c.in_ok-held.held.items in
    let ordered = c.put_in_order.new.held.items in
    let told : c.deref.result.now ≡ ordered = c.deref.ensures.value in
    let P : List SumGrant → Type 0 = λ xs. (x : SumGrant) → Contains xs x ↔ IsKept c.args.leases.now.grants c.args.time x in
    IfOk-map _ _ c.grants_of.result
    (λ grants is. subst P (sym (is ∙ ap (map grant_of) told))
    (grants_kept c.args.leases.now.grants c.args.time held ordered c.in_ok-held.ensures c.put_in_order.ensures.same))
    c.grants_of.ensures
