use Rattle.std.proofs.Common.{inl, inr, ⊎_elim}
use Rattle.std.proofs.lemmas.Result.{err_from_is_err_and, IfOk-at_ok}
use Rattle.toml.specs.View.{view, items_view}
use Rattle.join_policy.specs.Reading.{head_at, pledges_at}
use Rattle.join_policy.proofs.Whole.{stops_at_head, stops_at_pledges, stops_at_rows, stops_at_twice, whole, head_given, head_refused, seen_given, seen_refused, ok_within, all_sound}
use Rattle.join_policy.proofs.inventory.inventory_of.Goals as goal

pub returns-in_err-head-clause-exact : goal.returns-in_err-head-clause-exact
returns-in_err-head-clause-exact c =
    let p = err_from_is_err_and c.from_residual.result c.from_residual.ensures.1 in
    let d = view c.args.document.now in
    rw (p.1, p.2) (inr (stops_at_head d c.in_err-head.field-0.0
    (head_refused c.read_head.result (head_at d) c.in_err-head.field-0.0 c.read_head.ensures.exact c.in_err-head.ensures)))

pub returns-in_err-values-clause-exact : goal.returns-in_err-values-clause-exact
returns-in_err-values-clause-exact c =
    let p = err_from_is_err_and c.from_residual-in_err-values.result c.from_residual-in_err-values.ensures.1 in
    let d = view c.args.document.now in
    let head_is = head_given c.read_head.result (head_at d) c.in_ok-head.head c.read_head.ensures.exact c.in_ok-head.ensures in
    rw (p.1, p.2) (inr (stops_at_pledges d c.in_ok-head.head c.in_err-values.field-0.0 head_is
    (seen_refused _ c.read_pledges.result (pledges_at d) c.in_err-values.field-0.0 c.read_pledges.ensures c.in_err-values.ensures)))

pub returns-in_err-rows-clause-exact : goal.returns-in_err-rows-clause-exact
returns-in_err-rows-clause-exact c =
    let p = err_from_is_err_and c.from_residual-in_err-rows.result c.from_residual-in_err-rows.ensures.1 in
    let d = view c.args.document.now in
    let e = c.in_err-rows.field-0.0 in
    let head_is = head_given c.read_head.result (head_at d) c.in_ok-head.head c.read_head.ensures.exact c.in_ok-head.ensures in
    let pledges_is = seen_given _ c.read_pledges.result (pledges_at d) c.in_ok-values.values c.read_pledges.ensures c.in_ok-values.ensures in
    rw (p.1, p.2) (⊎_elim (λ memory. inl memory)
    (λ bad. inr (stops_at_rows d c.in_ok-head.head (items_view c.in_ok-values.values.now) head_is pledges_is e bad)) c.in_err-rows.ensures.exact)

pub returns-in_err-index-clause-exact : goal.returns-in_err-index-clause-exact
returns-in_err-index-clause-exact c =
    let p = err_from_is_err_and c.from_residual-in_err-index.result c.from_residual-in_err-index.ensures.1 in
    let d = view c.args.document.now in
    let head_is = head_given c.read_head.result (head_at d) c.in_ok-head.head c.read_head.ensures.exact c.in_ok-head.ensures in
    let pledges_is = seen_given _ c.read_pledges.result (pledges_at d) c.in_ok-values.values c.read_pledges.ensures c.in_ok-values.ensures in
    rw (p.1, p.2) (⊎_elim (λ memory. inl memory)
    (λ twice. inr (rw twice.1 (stops_at_twice d c.in_ok-head.head (items_view c.in_ok-values.values.now) head_is pledges_is
    c.in_ok-rows.rows.items twice.0 c.in_ok-rows.ensures.exact (rw c.as_slice.ensures.value at twice.2)))) c.in_err-index.ensures.refused)

pub returns-clause-exact : goal.returns-clause-exact
returns-clause-exact c =
    let d = view c.args.document.now in
    let head_is = head_given c.read_head.result (head_at d) c.in_ok-head.head c.read_head.ensures.exact c.in_ok-head.ensures in
    let pledges_is = seen_given _ c.read_pledges.result (pledges_at d) c.in_ok-values.values c.read_pledges.ensures c.in_ok-values.ensures in
    let fresh = c.in_ok-index.ensures.distinct in
    whole d c.in_ok-head.head (items_view c.in_ok-values.values.now) head_is pledges_is c.in_ok-rows.rows.items c.in_ok-rows.ensures.exact
    (rw c.as_slice.ensures.value at fresh)

pub returns-clause-sound : goal.returns-clause-sound
returns-clause-sound c =
    let sound = IfOk-at_ok _ (ok_within c.read_head.result c.in_ok-head.head c.in_ok-head.ensures) c.read_head.ensures.sound in
    all_sound c.in_ok-head.head c.in_ok-rows.rows.items c.as_slice.result.now sound c.in_ok-rows.ensures.few c.as_slice.ensures.value
    c.in_ok-index.ensures.distinct

pub invariant_of-result : goal.invariant_of-result
invariant_of-result c =
    let sound = IfOk-at_ok _ (ok_within c.read_head.result c.in_ok-head.head c.in_ok-head.ensures) c.read_head.ensures.sound in
    let index = c.in_ok-index.ensures.index in (
      rw c.as_slice.ensures.value at index,
      all_sound c.in_ok-head.head c.in_ok-rows.rows.items c.as_slice.result.now sound c.in_ok-rows.ensures.few c.as_slice.ensures.value
          c.in_ok-index.ensures.distinct,
    )
