use Rattle.std.proofs.Common.{arith}
use Rattle.std.proofs.lemmas.Result.{err_from_is_err_and}
use Rattle.join_policy.proofs.Whole.{stops_at_document, goes_on, given_ok, given_err}
use Rattle.join_policy.proofs.inventory.Inventory.read.Goals as goal

pub returns-in_err-document-clause-err : goal.returns-in_err-document-clause-err
returns-in_err-document-clause-err c =
    let p = err_from_is_err_and c.from_residual.result c.from_residual.ensures.1 in
    rw (p.1, p.2) (stops_at_document c.args.bytes.now c.in_err-document.field-0.0 (omega (arith, c.if-bytes-gt-MAX_BYTES.false)) c.in_err-document.ensures)

pub returns-clause-ok : goal.returns-clause-ok
returns-clause-ok c =
    let here = goes_on c.args.bytes.now _ (omega (arith, c.if-bytes-gt-MAX_BYTES.false)) c.in_ok-document.ensures in
    given_ok c.inventory_of.result _ _ c.inventory_of.ensures.exact here

pub returns-clause-err : goal.returns-clause-err
returns-clause-err c =
    let here = goes_on c.args.bytes.now _ (omega (arith, c.if-bytes-gt-MAX_BYTES.false)) c.in_ok-document.ensures in
    given_err c.inventory_of.result _ _ c.inventory_of.ensures.exact here
