use Rattle.std.proofs.Common.{ℕ, ◌+◌, ◌-◌, ◌∙◌, sym, ap}
use Rattle.std.proofs.lemmas.Result.{err_from_is_err_and}
use Rattle.cbor_cojp.specs.Grammar.{times_at}
use Rattle.cbor_cojp.specs.Join.{triple_at}
use Rattle.cbor_cojp.proofs.Loops.{times-more, times-fails, times-done}
use Rattle.cbor_cojp.proofs.join.read_triples.Goals as goal

pub returns-in_err-read_triple : goal.returns-in_err-read_triple
returns-in_err-read_triple c =
    let p = err_from_is_err_and c.from_residual.result c.from_residual.ensures.1 in
    rw (p.1, p.2) (sym c.loop.invariant.0
    ∙ times-fails (λ before. triple_at) c.loop.reader.end c.args.count c.loop.counter tt c.loop.reader.left
    c.in_err-read_triple.field-0.0 c.loop-test.true c.in_err-read_triple.ensures)

pub loop-preserved : goal.loop-preserved
loop-preserved c =
    let e = c.in_ok-read_triple.ensures in
    let left = c.read_triple.new.reader.left in (
      ap (λ (end : ℕ). times_at (λ before. triple_at) (c.args.count - (c.loop.counter + 1)) tt end left) e.1
          ∙ sym (times-more (λ before. triple_at) c.loop.reader.end c.args.count c.loop.counter tt tt c.loop.reader.left left c.loop-test.true e.0)
          ∙ c.loop.invariant.0,
      e.1 ∙ c.loop.invariant.1,
    )

pub returns : goal.returns
returns c = (
  sym c.loop.invariant.0 ∙ times-done (λ before. triple_at) c.loop.reader.end c.args.count c.loop.counter tt c.loop.reader.left c.loop-test.false,
  c.loop.invariant.1,
)
