use Rattle.journal_store.proofs.Headers.{agrees_more, differs_at}
use Rattle.journal_store.proofs.area.agreement.Goals as goal

pub returns-then-not-starts_with-clause-first : goal.returns-then-not-starts_with-clause-first
returns-then-not-starts_with-clause-first c lt =
    differs_at c.loop-place.place c.args.area.now c.starts_with.result lt c.loop-place.invariant.agrees c.starts_with.ensures.value c.if-not-starts_with.true

pub loop-place-preserved : goal.loop-place-preserved
loop-place-preserved c = record {
  agrees = agrees_more c.loop-place.place c.args.area.now c.starts_with.result c.loop-place-test.true c.starts_with.ensures.value c.if-not-starts_with.false;
}
