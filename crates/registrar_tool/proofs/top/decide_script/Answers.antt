-- A script whose journal was opened is decided from where the book is.
use Rattle.std.proofs.Common.{◌≡◌, ◌⊎◌, ℕ, List, [], None, map, ◌∙◌, refl, sym, ap, subst}
use Rattle.edge_traits.specs.declared.names.PledgeId.{PledgeId}
use Rattle.edge_traits.specs.Disk.{LeavesOnly}
use Rattle.registrar_book.specs.declared.answers.OpenFault.{OpenFault}
use Rattle.registrar_book.specs.declared.answers.OpenFault.TheVariants as fault
use Rattle.registrar_book.specs.Opening.{Row, BookCause}
use Rattle.registrar_book.specs.Books.{IsOpenOn, HasOpening, book_disk}
use Rattle.tool_text.specs.declared.line.Line.{Line}
use Rattle.registrar_tool.specs.declared.status.Status.{Status}
use Rattle.registrar_tool.specs.declared.status.Status.TheVariants.{BadScript, DiskFault, NotAJournal, SameKey, ContextsFull, JournalFull}
use Rattle.registrar_tool.specs.Script.{ListsOnce, IsWrongAt}
use Rattle.registrar_tool.specs.Told.{decide_row}
use Rattle.registrar_tool.specs.Opened.{AreAskable, IsReady, standing_of}
use Rattle.registrar_tool.specs.Run.{script_limit, AreCutShort, AreDone, IsNotOpened, open_status}
use Rattle.registrar_tool.proofs.ListedLemmas.{AreGoodLines-read, AreAskable-read}
use Rattle.registrar_tool.proofs.StartLemmas.{is_ready, is_whole, is_wrong_from, is_cut}
use Rattle.registrar_tool.proofs.top.decide_script.Goals as goal

same_line : (m n : ℕ) → BadScript m ≡ BadScript n → m ≡ n
same_line m n is = cc

fault_of : Status → OpenFault
fault_of (DiskFault count) = fault.Disk count
fault_of (NotAJournal spot) = fault.NotAJournal spot
fault_of (SameKey p q) = fault.SameKey p q
fault_of (ContextsFull count) = fault.ContextsFull count
fault_of (JournalFull count) = fault.JournalFull count
fault_of _ = fault.NoMemory

back : (why : OpenFault) → fault_of (open_status why) ≡ why
unfolding fault_of
back (fault.Disk count) = refl
back (fault.NotAJournal spot) = refl
back (fault.SameKey p q) = refl
back (fault.ContextsFull count) = refl
back (fault.JournalFull count) = refl
back fault.NoMemory = refl

pub returns-in-Err-clause-not_opened : goal.returns-in-Err-clause-not_opened
returns-in-Err-clause-not_opened g c why is some =
    let lines = c.in-Ok.lines.items in
    let ids = c.in-Ok-list_ids.ids in
    let listed : ListsOnce [] lines ids = subst (λ (ls : List Line). ListsOnce [] ls ids) c.deref.ensures.value c.in-Ok-list_ids.ensures.listed in
    let rows : c.in-Ok-rows_of.rows.items ≡ map decide_row ids = c.in-Ok-rows_of.ensures ∙ ap (λ (l : List PledgeId). map decide_row l) c.all.ensures in
    let same : c.in-Err.fault ≡ why = sym (back c.in-Err.fault) ∙ ap fault_of (sym c.status_of.ensures ∙ is) ∙ back why in
    let old = c.args.disk in
    subst (λ (w : OpenFault). IsNotOpened g.D.Disk old c.in-Err.disk c.args.settings c.args.bytes.now w) same (record {
      lines = lines;
      good = AreGoodLines-read script_limit c.args.bytes.now lines c.in-Ok.wrong c.in-Ok.ensures.lines;
      ids = ids;
      listed = listed;
      cause = subst (λ (r : List Row). BookCause (g.D.Disk.tells old) (g.D.Disk.seen old) (g.D.Disk.fault_count old) (g.D.Disk.fault_count c.in-Err.disk) c.args.settings r None c.in-Err.fault) rows c.in-Err.ensures.fault;
      moments = λ told. subst (λ (r : List Row). LeavesOnly g.D.Disk.moment g.D.Disk.left_since old c.in-Err.disk
          (λ image. g.D.Disk.may_leave old image ⊎ HasOpening (g.D.Disk.seen old) c.args.settings r None image)) rows (c.in-Err.ensures.any_moment told);
    })

pub decide_on-disk-requires-clause-askable : goal.decide_on-disk-requires-clause-askable
decide_on-disk-requires-clause-askable g c =
    let lines = c.in-Ok.lines.items in
    let ids = c.in-Ok-list_ids.ids in
    let listed : ListsOnce [] lines ids = subst (λ (ls : List Line). ListsOnce [] ls ids) c.deref.ensures.value c.in-Ok-list_ids.ensures.listed in
    let good = AreGoodLines-read script_limit c.args.bytes.now lines c.in-Ok.wrong c.in-Ok.ensures.lines in
    subst (AreAskable ids) (sym c.deref-3.ensures.value) (AreAskable-read script_limit c.args.bytes.now lines ids good listed)

pub decide_on-disk-requires-clause-ready : goal.decide_on-disk-requires-clause-ready
decide_on-disk-requires-clause-ready g c =
    let ids = c.in-Ok-list_ids.ids in
    let rows : c.in-Ok-rows_of.rows.items ≡ map decide_row ids = c.in-Ok-rows_of.ensures ∙ ap (λ (l : List PledgeId). map decide_row l) c.all.ensures in
    let opened = subst (λ (r : List Row). IsOpenOn c.args.disk c.args.settings r None c.in-Ok-start.opened.0 c.in-Ok-start.opened.1.items) rows c.in-Ok-start.ensures.opened in
    let ready = is_ready c.args.disk c.args.settings ids c.in-Ok-start.opened.0 c.in-Ok-start.opened.1.items opened c.in-Ok-start.ensures.kept c.in-Ok-start.ensures.same.tells c.in-Ok-start.ensures.same.counted in
    subst (λ (cs : List ℕ). IsReady c.in-Ok-start.opened.0 ids cs) (sym c.deref-2.ensures.value) ready

pub returns-in-Err-default-clause-write_fault : goal.returns-in-Err-default-clause-write_fault
returns-in-Err-default-clause-write_fault g c f is =
    let lines = c.in-Ok.lines.items in
    let ids = c.in-Ok-list_ids.ids in
    let listed : ListsOnce [] lines ids = subst (λ (ls : List Line). ListsOnce [] ls ids) c.deref.ensures.value c.in-Ok-list_ids.ensures.listed in
    let rows : c.in-Ok-rows_of.rows.items ≡ map decide_row ids = c.in-Ok-rows_of.ensures ∙ ap (λ (l : List PledgeId). map decide_row l) c.all.ensures in
    let opened = subst (λ (r : List Row). IsOpenOn c.args.disk c.args.settings r None c.in-Ok-start.opened.0 c.in-Ok-start.opened.1.items) rows c.in-Ok-start.ensures.opened in
    let cut = subst (λ (ls : List Line). AreCutShort g.D.Disk (standing_of c.in-Ok-start.opened.0) ls (g.K.Sink.written c.args.out.now) (g.K.Sink.written c.decide_on-disk.new.out) c.decide_on-disk.result.0) c.deref-3.ensures.value
    (rw c.in-Err-default.is-0 at c.decide_on-disk.ensures.cut) in
    is_cut c.args.disk c.args.settings ids c.in-Ok-start.opened.0 c.in-Ok-start.opened.1.items opened c.in-Ok-start.ensures.kept c.in-Ok-start.ensures.same.tells c.in-Ok-start.ensures.same.counted c.args.bytes.now lines listed
    (g.K.Sink.written c.args.out.now) (g.K.Sink.written c.decide_on-disk.new.out) c.decide_on-disk.result.0
    (AreGoodLines-read script_limit c.args.bytes.now lines c.in-Ok.wrong c.in-Ok.ensures.lines) cut

pub returns-in-Ok-Some-clause-bad_script : goal.returns-in-Ok-Some-clause-bad_script
returns-in-Ok-Some-clause-bad_script g c k is =
    let lines = c.in-Ok.lines.items in
    let ids = c.in-Ok-list_ids.ids in
    let listed : ListsOnce [] lines ids = subst (λ (ls : List Line). ListsOnce [] ls ids) c.deref.ensures.value c.in-Ok-list_ids.ensures.listed in
    let rows : c.in-Ok-rows_of.rows.items ≡ map decide_row ids = c.in-Ok-rows_of.ensures ∙ ap (λ (l : List PledgeId). map decide_row l) c.all.ensures in
    let opened = subst (λ (r : List Row). IsOpenOn c.args.disk c.args.settings r None c.in-Ok-start.opened.0 c.in-Ok-start.opened.1.items) rows c.in-Ok-start.ensures.opened in
    let done = subst (λ (ls : List Line). AreDone g.D.Disk (standing_of c.in-Ok-start.opened.0) ls (g.K.Sink.written c.args.out.now) (g.K.Sink.written c.decide_on-disk.new.out) c.decide_on-disk.result.0) c.deref-3.ensures.value
    (rw c.in-Ok-Some.is-0 at c.decide_on-disk.ensures.done) in
    let wrong = rw c.in-Ok-Some.is-1 at c.in-Ok.ensures.lines in
    is_wrong_from c.args.disk c.args.settings ids c.in-Ok-start.opened.0 c.in-Ok-start.opened.1.items opened c.in-Ok-start.ensures.kept c.in-Ok-start.ensures.same.tells c.in-Ok-start.ensures.same.counted c.args.bytes.now lines listed
    (g.K.Sink.written c.args.out.now) (g.K.Sink.written c.decide_on-disk.new.out) c.decide_on-disk.result.0 k
    (subst (λ (n : ℕ). IsWrongAt script_limit c.args.bytes.now lines n) (same_line c.in-Ok-Some.number k is) wrong) done

pub returns-clause-done : goal.returns-clause-done
returns-clause-done g c is =
    let lines = c.in-Ok.lines.items in
    let ids = c.in-Ok-list_ids.ids in
    let listed : ListsOnce [] lines ids = subst (λ (ls : List Line). ListsOnce [] ls ids) c.deref.ensures.value c.in-Ok-list_ids.ensures.listed in
    let rows : c.in-Ok-rows_of.rows.items ≡ map decide_row ids = c.in-Ok-rows_of.ensures ∙ ap (λ (l : List PledgeId). map decide_row l) c.all.ensures in
    let opened = subst (λ (r : List Row). IsOpenOn c.args.disk c.args.settings r None c.in-Ok-start.opened.0 c.in-Ok-start.opened.1.items) rows c.in-Ok-start.ensures.opened in
    let done = subst (λ (ls : List Line). AreDone g.D.Disk (standing_of c.in-Ok-start.opened.0) ls (g.K.Sink.written c.args.out.now) (g.K.Sink.written c.decide_on-disk.new.out) c.decide_on-disk.result.0) c.deref-3.ensures.value
    (rw c.in-Ok-None.is-0 at c.decide_on-disk.ensures.done) in
    let script = rw c.in-Ok-None.is-1 at c.in-Ok.ensures.lines in
    is_whole c.args.disk c.args.settings ids c.in-Ok-start.opened.0 c.in-Ok-start.opened.1.items opened c.in-Ok-start.ensures.kept c.in-Ok-start.ensures.same.tells c.in-Ok-start.ensures.same.counted c.args.bytes.now lines listed
    (g.K.Sink.written c.args.out.now) (g.K.Sink.written c.decide_on-disk.new.out) c.decide_on-disk.result.0 script done
