use Rattle.std.proofs.Common.{ℕ, ◌+◌, ◌-◌, ◌∷◌, ◌++◌, [], ◌∙◌, sym, ap}
use Rattle.std.proofs.lemmas.Result.{err_from_is_err_and}
use Rattle.cbor_cojp.specs.Grammar.{times_at}
use Rattle.cbor_cojp.specs.Config.{refused_at}
use Rattle.cbor_cojp.proofs.Loops.{times-more, times-fails, times-done}
use Rattle.cbor_cojp.proofs.Configs.{refused_more, refused_fails}
use Rattle.cbor_cojp.proofs.config.read_ids.Goals as goal

pub returns-in_err-id : goal.returns-in_err-id
returns-in_err-id c =
    let p = err_from_is_err_and c.from_residual.result c.from_residual.ensures.1 in
    rw (p.1, p.2) (sym c.loop.invariant.0
    ∙ times-fails refused_at c.loop.reader.end c.args.count c.loop.counter c.loop.ids.items c.loop.reader.left
    c.in_err-id.field-0.0 c.loop-test.true (refused_fails c.loop.reader.end c.loop.ids.items c.loop.reader.left c.in_err-id.field-0.0 c.in_err-id.ensures))

pub loop-preserved : goal.loop-preserved
loop-preserved c =
    let e = c.in_ok-id.ensures in
    let left = c.sized.new.reader.left in
    let after = c.loop.ids.items ++ c.in_ok-id.id ∷ [] in (
      rw c.push.ensures.items
          (ap (λ (end : ℕ). times_at refused_at (c.args.count - (c.loop.counter + 1)) after end left) e.1
          ∙ sym (times-more refused_at c.loop.reader.end c.args.count c.loop.counter c.loop.ids.items after c.loop.reader.left left c.loop-test.true
          (refused_more c.loop.reader.end c.loop.ids.items c.loop.reader.left c.in_ok-id.id left e.0))
          ∙ c.loop.invariant.0),
      e.1 ∙ c.loop.invariant.1,
      c.push.ensures.len ∙ ap (λ (n : ℕ). n + 1) c.loop.invariant.2,
    )

pub returns : goal.returns
returns c = (
  sym c.loop.invariant.0 ∙ times-done refused_at c.loop.reader.end c.args.count c.loop.counter c.loop.ids.items c.loop.reader.left c.loop-test.false,
  c.loop.invariant.1,
)
