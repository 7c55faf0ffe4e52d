-- Line after line is done where the book is.
use Rattle.std.proofs.Common.{[], ◌∷◌, refl, subst, ◌∙◌, arith}
use Rattle.std.proofs.lemmas.List.{nil_from_length}
use Rattle.registrar_state.proofs.StateLemmas.{IsLegal-stands}
use Rattle.registrar_book.specs.Books.{IsKept, log_of, state_of, durable_of, book_disk}
use Rattle.registrar_book.proofs.Prefixes.{held_prefix}
use Rattle.registrar_tool.specs.Opened.{AreAskable, standing_of}
use Rattle.registrar_tool.proofs.ListedLemmas.{AreAskable-rest}
use Rattle.registrar_tool.proofs.RunLemmas.{AreDoneBefore, AreDoneBefore-none, AreDoneBefore-more, AreCutShort-next, AreDone-all, AreMoments-none, AreMoments-more}
use Rattle.registrar_tool.proofs.decide.decide_lines.Goals as goal

pub loop-line-init : goal.loop-line-init
unfolding IsKept
loop-line-init g c = record {
  done = AreDoneBefore-none g.D.Disk (standing_of c.args.book.now) c.args.lines.now (g.K.Sink.written c.args.out.now);
  moments =
      AreMoments-none g.D.Disk (standing_of c.args.book.now) (IsLegal-stands (state_of c.args.book.now) (log_of c.args.book.now) c.requires.ready.stands) c.requires.durable
      (λ told image left. held_prefix g.D.Disk.may_leave c.args.book.now.press.journal (log_of c.args.book.now) (durable_of c.args.book.now) (c.requires.ready.kept told) image left)
      (g.met.D.Disk.only_now (book_disk c.args.book.now));
  askable = c.requires.askable;
  ready = c.requires.ready;
  same = refl;
  counted = omega arith;
}

pub returns-in-Err-clause-cut : goal.returns-in-Err-clause-cut
returns-in-Err-clause-cut g c =
    let start = standing_of c.args.book.now in
    let between = standing_of c.loop-line.book in
    let before = g.K.Sink.written c.args.out.now in
    let so_far = subst (λ r. AreDoneBefore g.D.Disk start c.args.lines.now r before (g.K.Sink.written c.loop-line.out) between) c.in-Some.ensures.cases.0 c.loop-line.invariant.done in
    AreCutShort-next g.D.Disk start c.args.lines.now c.in-Some.line.now c.in-Some.after.now before (g.K.Sink.written c.loop-line.out) (g.K.Sink.written c.decide_line.new.out) between (standing_of c.decide_line.new.book) so_far c.in-Err.ensures.cut
    (AreMoments-more g.D.Disk start between (standing_of c.decide_line.new.book) c.loop-line.invariant.moments
    c.in-Some.line.now (c.in-Err.ensures.cut.outcome ∷ []) c.in-Err.ensures.cut.told)

pub loop-line-preserved : goal.loop-line-preserved
loop-line-preserved g c =
    let start = standing_of c.args.book.now in
    let between = standing_of c.loop-line.book in
    let before = g.K.Sink.written c.args.out.now in
    let so_far = subst (λ r. AreDoneBefore g.D.Disk start c.args.lines.now r before (g.K.Sink.written c.loop-line.out) between) c.in-Some.ensures.cases.0 c.loop-line.invariant.done in
    let done = c.in_default-decide_line.ensures.done in
    record {
      done = AreDoneBefore-more g.D.Disk start c.args.lines.now c.in-Some.line.now c.in-Some.after.now before (g.K.Sink.written c.loop-line.out) (g.K.Sink.written c.decide_line.new.out) between (standing_of c.decide_line.new.book) so_far done;
      moments =
          AreMoments-more g.D.Disk start between (standing_of c.decide_line.new.book) c.loop-line.invariant.moments
          c.in-Some.line.now done.outcomes done.told;
      askable =
          AreAskable-rest c.args.ids.now c.in-Some.line.now c.in-Some.after.now
          (subst (AreAskable c.args.ids.now) c.in-Some.ensures.cases.0 c.loop-line.invariant.askable);
      ready = c.decide_line.ensures.ready;
      same = c.in_default-decide_line.ensures.cause.kept refl ∙ c.loop-line.invariant.same;
      counted = omega (arith, c.loop-line.invariant.counted, c.decide_line.ensures.counted);
    }

pub returns-clause-done : goal.returns-clause-done
returns-clause-done g c =
    AreDone-all g.D.Disk (standing_of c.args.book.now) c.args.lines.now c.loop-line.rest.now (g.K.Sink.written c.args.out.now)
    (g.K.Sink.written c.loop-line.out) (standing_of c.loop-line.book)
    (nil_from_length c.loop-line.rest.now c.in_default.ensures.cases) c.loop-line.invariant.done c.loop-line.invariant.moments
