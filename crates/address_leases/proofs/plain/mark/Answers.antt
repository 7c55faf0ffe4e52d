use Rattle.std.proofs.Common.{refl, sym, ◌∙◌, subst, arith, true≢false, length, take, slice_index_or, [], ◌≡◌, ◌+◌}
use Rattle.std.proofs.lemmas.List.{take_all}
use Rattle.address_leases.specs.declared.grant.Grant.{Grant}
use Rattle.address_leases.specs.Plain.{AreMarks}
use Rattle.address_leases.proofs.PlainLemmas.{no_marks, marks_len, marks_set, marks_same}
use Rattle.address_leases.proofs.plain.mark.Goals.{then-is_against, else-is_against}
use Rattle.address_leases.proofs.plain.mark.Goals as goal

pub loop-grant-init : goal.loop-grant-init
loop-grant-init c = (
  marks_len 65536 c.args.marks.now c.requires,
  no_marks 65536 c.args.marks.now c.args.now c.args.id refl c.requires,
)

pub loop-grant-preserved : goal.loop-grant-preserved
loop-grant-preserved c =
    let grants = c.args.grants.now in
    let n = c.loop-grant.grant-index in
    let d : Grant = record { until = 0; address = 0; id = record { 0 = [] } } in
    let g = slice_index_or grants n d in
    let len : length c.loop-grant.marks ≡ 65536 = c.loop-grant.invariant.0 in (
      c.if-is_against.auto.marks ∙ len,
      elim c.if-is_against.branch [
        | then-is_against w ↦
            subst (λ l. AreMarks l (take (n + 1) grants) c.args.now c.args.id) (sym w.marks-is)
            (marks_set c.loop-grant.marks grants n c.args.now c.args.id g d len (omega arith) refl (c.is_against.ensures.0 w.if-is_against.true) c.loop-grant.invariant.1)
        | else-is_against w ↦
            subst (λ l. AreMarks l (take (n + 1) grants) c.args.now c.args.id) (sym w.marks-is)
            (marks_same c.loop-grant.marks grants n c.args.now c.args.id g d (omega arith) refl
            (λ against. true≢false (sym (c.is_against.ensures.1 against) ∙ w.if-is_against.false)) c.loop-grant.invariant.1)
      ],
    )

pub returns-clause-marks : goal.returns-clause-marks
returns-clause-marks c =
    subst (λ l. AreMarks c.loop-grant.marks l c.args.now c.args.id) (take_all c.loop-grant.grant-index c.args.grants.now (omega arith)) c.loop-grant.invariant.1
