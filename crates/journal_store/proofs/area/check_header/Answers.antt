-- Each fault of the summary, after sixteen bytes that agree with the header.
use Rattle.std.proofs.Common.{inl, inr, refl, arith, ◌∙◌}
use Rattle.journal_store.proofs.Headers.{agrees_less}
use Rattle.journal_store.proofs.area.check_header.Goals as goal

pub returns-then-area-lt20-clause-fault : goal.returns-then-area-lt20-clause-fault
returns-then-area-lt20-clause-fault c =
    inr (inl (refl, (agrees_less 16 c.agreement-same.result c.args.area.now c.if-same-lt16.false c.agreement-same.ensures.agrees, inl c.if-area-lt20.true)))

pub returns-then-area-size-clause-fault : goal.returns-then-area-size-clause-fault
returns-then-area-size-clause-fault c =
    inr (inl (refl, (agrees_less 16 c.agreement-same.result c.args.area.now c.if-same-lt16.false c.agreement-same.ensures.agrees, inr (omega (arith, c.summary_size-size.ensures, c.if-area-size.true)))))

pub returns-then-size-ne22-clause-fault : goal.returns-then-size-ne22-clause-fault
returns-then-size-ne22-clause-fault c =
    inl (
      refl,
      record {
        agrees = agrees_less 16 c.agreement-same.result c.args.area.now c.if-same-lt16.false c.agreement-same.ensures.agrees;
        whole = c.if-area-lt20.false;
        inside = omega (arith, c.summary_size-size.ensures, c.if-area-size.false);
        other = λ e. c.if-size-ne22.true (c.summary_size-size.ensures ∙ e);
      },
    )
