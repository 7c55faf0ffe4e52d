use Rattle.std.proofs.Common.{◌≡◌, ◌≤◌, length}
use Rattle.registrar_book.specs.Books.{book_disk}
use Rattle.registrar_tool.specs.Told.{AreMoments}
use Rattle.registrar_tool.specs.Opened.{IsReady, AreAskable, standing_of}
use Rattle.registrar_tool.proofs.RunLemmas.{AreDoneBefore}
use Rattle.registrar_tool.proofs.decide.decide_lines.Given as goal

abbrev pub invariant-loop-line : goal.invariant-loop-line
invariant-loop-line g l = record {
  done : AreDoneBefore g.D.Disk (standing_of l.initial.book) l.lines l.rest (g.K.Sink.written l.initial.out) (g.K.Sink.written l.out) (standing_of l.book);
  moments : AreMoments g.D.Disk (standing_of l.initial.book) (standing_of l.book);
  askable : AreAskable l.ids l.rest;
  ready : IsReady l.book l.ids l.contexts;
  same : g.K.Sink.fault_count l.out ≡ g.K.Sink.fault_count l.initial.out;
  counted : g.D.Disk.fault_count (book_disk l.initial.book) ≤ g.D.Disk.fault_count (book_disk l.book);
}

abbrev pub decreases-loop-line : goal.decreases-loop-line
decreases-loop-line g l = length l.rest
