-- What is pending is settled first; then what is due is answered, or added.
use Rattle.std.proofs.Common.{◌≡◌, ◌++◌, List, length, ◌∙◌, sym, ap, subst, inl}
use Rattle.std.specs.Prelude.{IsTrue}
use Rattle.edge_traits.specs.Disk.{LeavesOnly}
use Rattle.journal_text.specs.declared.entry.Entry.{Entry}
use Rattle.registrar_state.specs.State.{StandsFor}
use Rattle.journal_store.specs.Store.{disk_of}
use Rattle.registrar_book.specs.Journals.{HasLog, HasPrefix}
use Rattle.registrar_book.specs.Books.{LeavesDurable, IsKept, log_of, durable_of, book_disk}
use Rattle.registrar_book.proofs.Decisions.{decided_of, durable_of_added}
use Rattle.registrar_book.proofs.Prefixes.{held_least, settled_then}
use Rattle.registrar_book.proofs.book.Book.decide.Goals as goal

pub settle-requires-clause-held : goal.settle-requires-clause-held
unfolding IsKept
settle-requires-clause-held g c told = (log_of c.args.self.now, durable_of c.args.self.now, c.requires.kept told)

pub returns-in_default-clause-kept : goal.returns-in_default-clause-kept
unfolding IsKept
returns-in_default-clause-kept g c told = c.in_default.ensures.err told (log_of c.args.self.now) (durable_of c.args.self.now) (c.requires.kept told)

pub returns-in_default-clause-any_moment : goal.returns-in_default-clause-any_moment
unfolding IsKept
returns-in_default-clause-any_moment g c told = c.settle.ensures.any_moment told (log_of c.args.self.now) (durable_of c.args.self.now) (c.requires.kept told)

pub add-requires-clause-stands : goal.add-requires-clause-stands
unfolding IsKept
add-requires-clause-stands g c told =
    let told' = subst IsTrue c.settle.ensures.tells told in
    let stands = c.in-Ok.ensures.ok told' (log_of c.args.self.now) (durable_of c.args.self.now) (c.requires.kept told') in
    subst (λ (l : List Entry). HasLog g.D.Disk.may_leave c.settle.new.self.journal l) (sym (ap (λ v. v.items) c.settled.ensures.log)) stands

pub returns-in-Again-clause-kept : goal.returns-in-Again-clause-kept
unfolding IsKept
returns-in-Again-clause-kept g c told =
    let stands = c.in-Ok.ensures.ok told (log_of c.args.self.now) (durable_of c.args.self.now) (c.requires.kept told) in
    inl (subst (λ (l : List Entry). HasLog g.D.Disk.may_leave c.settle.new.self.journal l) (sym (ap (λ v. v.items) c.settled.ensures.log)) stands, c.settled.ensures.durable)

pub returns-in-Again-clause-any_moment : goal.returns-in-Again-clause-any_moment
unfolding IsKept
returns-in-Again-clause-any_moment g c told =
    subst (λ (l : List Entry). LeavesOnly g.D.Disk.moment g.D.Disk.left_since (book_disk c.args.self.now) (disk_of c.settle.new.self.journal)
    (HasPrefix (durable_of c.args.self.now) l)) (sym (ap (λ v. v.items) c.settled.ensures.log))
    (c.settle.ensures.any_moment told (log_of c.args.self.now) (durable_of c.args.self.now) (c.requires.kept told))

pub returns-in-Quiet-clause-kept : goal.returns-in-Quiet-clause-kept
unfolding IsKept
returns-in-Quiet-clause-kept g c told =
    let stands = c.in-Ok.ensures.ok told (log_of c.args.self.now) (durable_of c.args.self.now) (c.requires.kept told) in
    inl (subst (λ (l : List Entry). HasLog g.D.Disk.may_leave c.settle.new.self.journal l) (sym (ap (λ v. v.items) c.settled.ensures.log)) stands, c.settled.ensures.durable)

pub returns-in-Quiet-clause-any_moment : goal.returns-in-Quiet-clause-any_moment
unfolding IsKept
returns-in-Quiet-clause-any_moment g c told =
    subst (λ (l : List Entry). LeavesOnly g.D.Disk.moment g.D.Disk.left_since (book_disk c.args.self.now) (disk_of c.settle.new.self.journal)
    (HasPrefix (durable_of c.args.self.now) l)) (sym (ap (λ v. v.items) c.settled.ensures.log))
    (c.settle.ensures.any_moment told (log_of c.args.self.now) (durable_of c.args.self.now) (c.requires.kept told))

pub returns-in-Add-clause-adds : goal.returns-in-Add-clause-adds
returns-in-Add-clause-adds g c h stands =
    let stands' = subst (λ s. StandsFor s h) (sym c.settled.ensures.state) stands in
    let adds = c.add.ensures.adds in
    record {
      added = adds.added;
      decided = decided_of h c.args.now c.args.context c.args.number c.args.want c.in-Add.entry c.add.result adds.added (length (log_of c.add.new.self)) (c.in-Add.ensures.due h stands') adds.is;
      durable =
          durable_of_added c.in-Add.entry c.add.result adds.added (length (log_of c.add.new.self)) c.settled.new.self.durable (durable_of c.args.self.now) (length (log_of c.args.self.now)) (durable_of c.add.new.self) adds.is
          (subst (λ (l : List Entry). LeavesDurable c.add.result adds.added c.settled.new.self.durable (length l) (durable_of c.add.new.self)) (ap (λ v. v.items) c.settled.ensures.log) adds.durable);
      log = adds.log ∙ ap (λ (l : List Entry). l ++ adds.added) (ap (λ v. v.items) c.settled.ensures.log);
      stands = adds.stands h stands';
    }

pub returns-in-Add-clause-any_moment : goal.returns-in-Add-clause-any_moment
unfolding IsKept
returns-in-Add-clause-any_moment g c told =
    let told' = subst IsTrue (sym c.settle.ensures.tells) told in
    let kept = c.requires.kept told in
    let old = book_disk c.args.self.now in
    let mid = disk_of c.settle.new.self.journal in
    let new = book_disk c.add.new.self in
    let log = log_of c.args.self.now in
    let same : c.settled.new.self.log.items ≡ log = ap (λ v. v.items) c.settled.ensures.log in
    let first = c.settle.ensures.any_moment told log (durable_of c.args.self.now) kept in
    let second = subst (λ (l : List Entry). LeavesOnly g.D.Disk.moment g.D.Disk.left_since mid new (HasPrefix (length l) (log_of c.add.new.self))) same (c.add.ensures.any_moment told') in
    let longer : log_of c.add.new.self ≡ log ++ c.add.ensures.adds.added = c.add.ensures.adds.log ∙ ap (λ (l : List Entry). l ++ c.add.ensures.adds.added) same in
    settled_then g.D.Disk.may_leave g.D.Disk.moment g.D.Disk.left_since old mid new (durable_of c.args.self.now) (length log) log c.add.ensures.adds.added (log_of c.add.new.self) longer
    (held_least g.D.Disk.may_leave c.args.self.now.press.journal log (durable_of c.args.self.now) kept) first second
