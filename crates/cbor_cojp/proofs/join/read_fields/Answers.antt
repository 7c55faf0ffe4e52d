use Rattle.std.proofs.Common.{ℕ, ◌+◌, ◌-◌, ◌∙◌, sym, ap}
use Rattle.std.proofs.lemmas.Result.{err_from_is_err_and}
use Rattle.cbor_cojp.specs.Grammar.{times_at}
use Rattle.cbor_cojp.specs.Join.{fields_view, join_field_at}
use Rattle.cbor_cojp.proofs.Loops.{times-more, times-fails, times-done}
use Rattle.cbor_cojp.proofs.join.read_fields.Goals as goal

pub returns-in_err-fields : goal.returns-in_err-fields
returns-in_err-fields c =
    let p = err_from_is_err_and c.from_residual.result c.from_residual.ensures.1 in
    rw (p.1, p.2) (sym c.loop.invariant.0
    ∙ times-fails join_field_at c.loop.reader.end c.args.count c.loop.counter (fields_view c.loop.fields) c.loop.reader.left
    c.in_err-fields.field-0.0 c.loop-test.true c.in_err-fields.ensures)

pub loop-preserved : goal.loop-preserved
loop-preserved c =
    let e = c.in_ok-fields.ensures in
    let left = c.read_field.new.reader.left in (
      ap (λ (end : ℕ). times_at join_field_at (c.args.count - (c.loop.counter + 1)) (fields_view c.in_ok-fields.fields) end left) e.1
          ∙ sym (times-more join_field_at c.loop.reader.end c.args.count c.loop.counter (fields_view c.loop.fields) (fields_view c.in_ok-fields.fields) c.loop.reader.left left c.loop-test.true e.0)
          ∙ c.loop.invariant.0,
      e.1 ∙ c.loop.invariant.1,
    )

pub returns : goal.returns
returns c = (
  sym c.loop.invariant.0 ∙ times-done join_field_at c.loop.reader.end c.args.count c.loop.counter (fields_view c.loop.fields) c.loop.reader.left c.loop-test.false,
  c.loop.invariant.1,
)
