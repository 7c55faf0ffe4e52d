-- A journal that was read is opened, and what opening adds is written.
use Rattle.std.proofs.Common.{◌≡◌, ◌⊎◌, ℕ, Option, List, length, ◌++◌, ◌∙◌, sym, ap, subst, inl, inr}
use Rattle.std.specs.Prelude.{IsTrue, Result, Ok, Err, IfOk, Vec}
use Rattle.std.specs.declared.alloc.Global.{Global}
use Rattle.edge_traits.specs.declared.disk.Disk.{Ghosts}
use Rattle.edge_traits.specs.Disk.{Areas, LeavesOnly}
use Rattle.edge_traits.proofs.Moments.{joined, LeavesOnly-map}
use Rattle.journal_text.specs.declared.settings.Settings.{Settings}
use Rattle.journal_text.specs.declared.entry.Entry.{Entry}
use Rattle.journal_store.specs.Store.{disk_of, end_of}
use Rattle.registrar_book.specs.Journals.{HasLog, HasPrefix}
use Rattle.registrar_book.specs.Opening.{Row}
use Rattle.registrar_book.specs.declared.answers.OpenFault.{OpenFault}
use Rattle.registrar_book.specs.declared.book.Book.{Book}
use Rattle.registrar_book.specs.Prepared.{IsPrepared}
use Rattle.registrar_book.specs.Books.{log_of, book_disk, IsOpenOn, IsOpenBook, HasOpening, book_disk_after}
use Rattle.registrar_book.proofs.book.Book.start.Goals as goal

-- what holds of the book that was opened, and of its disk
open_on : {D V : Type 0} {ghosts : Ghosts D} (r : Result (Book D ghosts × Vec V Global) (D × OpenFault)) (P : Book D ghosts → Vec V Global → Type 0) (log : Book D ghosts → Type 0) (M : D → Type 0) (Q : Book D ghosts → Vec V Global → Type 0)
    → ((book : Book D ghosts) (contexts : Vec V Global) → P book contexts → log book → M (book_disk book) → Q book contexts)
    → IfOk r (λ opened. P opened.0 opened.1) → IfOk r (λ opened. log opened.0) → IfOk r (λ opened. M (book_disk opened.0)) → IfOk r (λ opened. Q opened.0 opened.1)
open_on (Ok opened) P log M Q f is logs moments = f opened.0 opened.1 is logs moments
open_on (Err refused) P log M Q f is logs moments = tt

if_ok : {D : Type 0} {ghosts : Ghosts D} (r : Result (Book D ghosts × Vec ℕ Global) (D × OpenFault)) (M : D → Type 0) → M (book_disk_after r) → IfOk r (λ opened. M (book_disk opened.0))
if_ok (Ok opened) M is = is
if_ok (Err refused) M is = tt

pub returns-in-Ok-prepare-clause-opened : goal.returns-in-Ok-prepare-clause-opened
returns-in-Ok-prepare-clause-opened g c =
    let log = c.in-Ok.opened.1.items in
    let old = c.args.disk in
    let mid = disk_of c.in-Ok.opened.0 in
    let prepared = c.in-Ok-prepare.ensures.ok in
    let added = c.in-Ok-prepare.prepared.plan.entries.items in
    let M : g.row.D.Denot → Type 0 = λ d. IsTrue (g.D.Disk.tells old) → LeavesOnly g.D.Disk.moment g.D.Disk.left_since old d
    (λ image. g.D.Disk.may_leave old image ⊎ HasPrefix (length log) (log ++ added) image) in
    let moments : M (book_disk_after c.open.result) = λ told.
    let told' : IsTrue (g.D.Disk.tells mid) = subst IsTrue (sym c.in-Ok.ensures.same.tells) told in
    let first = c.in-Ok.ensures.untouched.any_moment told in
    let second = subst (λ (l : List Entry). LeavesOnly g.D.Disk.moment g.D.Disk.left_since mid (book_disk_after c.open.result) (HasPrefix (length l) (l ++ added))) prepared.log_is (c.open.ensures.any_moment told') in
    let P : Areas → Type 0 = λ image. g.D.Disk.may_leave old image ⊎ HasPrefix (length log) (log ++ added) image in
    joined g.D.Disk.moment g.D.Disk.left_since old mid (book_disk_after c.open.result) P (HasPrefix (length log) (log ++ added))
    (LeavesOnly-map g.D.Disk.moment g.D.Disk.left_since old mid (g.D.Disk.may_leave old) P first (λ image left. inl left)) second
    (λ image has. inr has) in
    open_on c.open.result
    (λ book contexts. (log : List Entry) (settings : Settings) (rows : List Row) (now : Option ℕ) → IsPrepared log settings rows now c.in-Ok-prepare.prepared → IsOpenBook log settings rows now book contexts.items)
    (λ book. log_of book ≡ c.in-Ok-prepare.prepared.desk.log.items ++ added) M
    (λ book contexts. IsOpenOn old c.args.opening.now.settings c.args.opening.now.rows.items c.args.now book contexts.items)
    (λ book contexts is log_is moment.
    let same : log_of book ≡ log ++ added = log_is ∙ ap (λ (l : List Entry). l ++ added) prepared.log_is in
    record {
      log = log;
      log_is = λ told. (end_of c.in-Ok.opened.0, c.in-Ok.ensures.read told);
      is_open = is log c.args.opening.now.settings c.args.opening.now.rows.items c.args.now prepared;
      any_moment = λ told. subst (λ (h : List Entry). LeavesOnly g.D.Disk.moment g.D.Disk.left_since old (book_disk book)
          (λ image. g.D.Disk.may_leave old image ⊎ HasPrefix (length log) h image)) (sym same) (moment told);
    })
    c.open.ensures.opened c.open.ensures.log (if_ok c.open.result M moments)

pub returns-in-Ok-prepare-clause-any_moment : goal.returns-in-Ok-prepare-clause-any_moment
returns-in-Ok-prepare-clause-any_moment g c told =
    let prepared = c.in-Ok-prepare.ensures.ok in
    let log = c.in-Ok.opened.1.items in
    let old = c.args.disk in
    let mid = disk_of c.in-Ok.opened.0 in
    let added = c.in-Ok-prepare.prepared.plan.entries.items in
    let told' : IsTrue (g.D.Disk.tells mid) = subst IsTrue (sym c.in-Ok.ensures.same.tells) told in
    let first = c.in-Ok.ensures.untouched.any_moment told in
    let second = subst (λ (l : List Entry). LeavesOnly g.D.Disk.moment g.D.Disk.left_since mid (book_disk_after c.open.result) (HasPrefix (length l) (l ++ added))) prepared.log_is (c.open.ensures.any_moment told') in
    let P : Areas → Type 0 = λ image. g.D.Disk.may_leave old image ⊎ HasOpening (g.D.Disk.seen old) c.args.opening.now.settings c.args.opening.now.rows.items c.args.now image in
    joined g.D.Disk.moment g.D.Disk.left_since old mid (book_disk_after c.open.result) P (HasPrefix (length log) (log ++ added))
    (LeavesOnly-map g.D.Disk.moment g.D.Disk.left_since old mid (g.D.Disk.may_leave old) P first (λ image left. inl left)) second
    (λ image has. inr (record {
      log = log;
      has = (end_of c.in-Ok.opened.0, c.in-Ok.ensures.read told);
      history = log ++ added;
      opened = prepared.plan.opened;
      legal = prepared.plan.legal;
      prefix = has;
    }))

pub open-requires-clause-stands : goal.open-requires-clause-stands
open-requires-clause-stands g c told =
    let stands = c.in-Ok.ensures.found (subst IsTrue c.in-Ok.ensures.same.tells told) in
    subst (λ (l : List Entry). HasLog g.D.Disk.may_leave c.in-Ok.opened.0 l) (sym c.in-Ok-prepare.ensures.ok.log_is) (record { left = c.in-Ok.ensures.area; stands = stands })
