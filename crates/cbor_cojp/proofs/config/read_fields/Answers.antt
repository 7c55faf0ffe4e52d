use Rattle.std.proofs.Common.{ℕ, ◌+◌, ◌-◌, ◌∙◌, sym, ap}
use Rattle.std.proofs.lemmas.Result.{err_from_is_err_and}
use Rattle.cbor_cojp.specs.Grammar.{times_at}
use Rattle.cbor_cojp.specs.Config.{fields_view, config_field_at}
use Rattle.cbor_cojp.proofs.Loops.{times-more, times-fails, times-done}
use Rattle.cbor_cojp.proofs.config.read_fields.Goals as goal

pub returns-in_err-read_field : goal.returns-in_err-read_field
returns-in_err-read_field c =
    let p = err_from_is_err_and c.from_residual.result c.from_residual.ensures.1 in
    rw (p.1, p.2) (sym c.loop.invariant.0
    ∙ times-fails config_field_at c.loop.reader.end c.args.count c.loop.counter (fields_view c.loop.fields) c.loop.reader.left
    c.in_err-read_field.field-0.0 c.loop-test.true c.in_err-read_field.ensures)

pub loop-preserved : goal.loop-preserved
loop-preserved c =
    let e = c.in_ok-read_field.ensures in
    let left = c.read_field.new.reader.left in
    let after = fields_view c.read_field.new.fields in (
      ap (λ (end : ℕ). times_at config_field_at (c.args.count - (c.loop.counter + 1)) after end left) e.1
          ∙ sym (times-more config_field_at c.loop.reader.end c.args.count c.loop.counter (fields_view c.loop.fields) after c.loop.reader.left left c.loop-test.true e.0)
          ∙ c.loop.invariant.0,
      e.1 ∙ c.loop.invariant.1,
    )

pub returns : goal.returns
returns c = (
  sym c.loop.invariant.0 ∙ times-done config_field_at c.loop.reader.end c.args.count c.loop.counter (fields_view c.loop.fields) c.loop.reader.left c.loop-test.false,
  c.loop.invariant.1,
)
