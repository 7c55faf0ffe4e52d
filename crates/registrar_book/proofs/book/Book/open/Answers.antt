-- What is written is what the desk adds.
use Rattle.std.proofs.Common.{◌≡◌, ◌++◌, ◌≤◌, List, length, ◌∙◌, sym, ap, subst, inl}
use Rattle.std.specs.Prelude.{IsTrue}
use Rattle.std.specs.List.{AllByRecursion}
use Rattle.edge_traits.specs.Disk.{LeavesOnly}
use Rattle.journal_text.specs.declared.entry.Entry.{Entry}
use Rattle.journal_text.specs.Text.{IsSpellable}
use Rattle.join_history.specs.Contexts.{context_count}
use Rattle.registrar_state.specs.State.{spare_room}
use Rattle.journal_store.specs.Store.{disk_of}
use Rattle.registrar_book.specs.Journals.{AreSmall, HasLog, HasPrefix}
use Rattle.registrar_book.specs.Books.{IsKept}
use Rattle.registrar_book.proofs.Planning.{contexts_left}
use Rattle.registrar_book.proofs.book.Book.open.Goals as goal

pub put_all-requires-clause-spellable : goal.put_all-requires-clause-spellable
put_all-requires-clause-spellable g c = subst (AllByRecursion IsSpellable) (sym c.deref.ensures.value) c.requires.prepared.4.plan.spellable

pub put_all-requires-clause-sizes : goal.put_all-requires-clause-sizes
put_all-requires-clause-sizes g c = subst AreSmall (sym c.deref.ensures.value) c.requires.prepared.4.plan.small

pub add_all-requires-clause-contexts : goal.add_all-requires-clause-contexts
add_all-requires-clause-contexts g c =
    let is = c.requires.prepared.4 in
    subst (λ (l : List Entry). context_count l ≤ (spare_room c.args.prepared.desk.state).contexts) (sym c.deref-2.ensures.value)
    (contexts_left c.requires.prepared.0 c.args.prepared.plan.entries.items (spare_room c.args.prepared.desk.state).contexts is.plan.legal is.contexts_left)

pub returns-in_default-clause-any_moment : goal.returns-in_default-clause-any_moment
returns-in_default-clause-any_moment g c told =
    let log = c.args.prepared.desk.log.items in
    let new = c.new-press.ensures in
    let told' = subst (λ j. IsTrue (g.D.Disk.tells (disk_of j))) (sym new) told in
    let stands = subst (λ j. HasLog g.D.Disk.may_leave j log) (sym new) (c.requires.stands told) in
    let all = c.put_all.ensures.any_moment told' log stands in
    let all' = subst (λ j. LeavesOnly g.D.Disk.moment g.D.Disk.left_since (disk_of j) (disk_of c.put_all.new.self.journal) (HasPrefix (length log) (log ++ c.deref.result.now))) new all in
    let all'' = subst (λ (l : List Entry). LeavesOnly g.D.Disk.moment g.D.Disk.left_since (disk_of c.args.journal) (disk_of c.put_all.new.self.journal) (HasPrefix (length log) (log ++ l))) c.deref.ensures.value all' in
    subst (λ d. LeavesOnly g.D.Disk.moment g.D.Disk.left_since (disk_of c.args.journal) d (HasPrefix (length log) (log ++ c.args.prepared.plan.entries.items))) (sym c.close.ensures) all''

pub returns-clause-kept : goal.returns-clause-kept
unfolding IsKept
returns-clause-kept g c told =
    let log = c.args.prepared.desk.log.items in
    let new = c.new-press.ensures in
    let told' = subst (λ j. IsTrue (g.D.Disk.tells (disk_of j))) (sym new) told in
    let stands = subst (λ j. HasLog g.D.Disk.may_leave j log) (sym new) (c.requires.stands told) in
    let now = c.in-Ok.ensures.ok told' log stands in
    let same : c.add_all.new.self.log.items ≡ log ++ c.deref.result.now = c.add_all.ensures.log ∙ ap (λ (l : List Entry). log ++ l) (c.deref-2.ensures.value ∙ sym c.deref.ensures.value) in
    inl (subst (λ (l : List Entry). HasLog g.D.Disk.may_leave c.put_all.new.self.journal l) (sym same) now, c.add_all.ensures.durable)

pub returns-clause-any_moment : goal.returns-clause-any_moment
returns-clause-any_moment g c told =
    let log = c.args.prepared.desk.log.items in
    let new = c.new-press.ensures in
    let told' = subst (λ j. IsTrue (g.D.Disk.tells (disk_of j))) (sym new) told in
    let stands = subst (λ j. HasLog g.D.Disk.may_leave j log) (sym new) (c.requires.stands told) in
    let all = c.put_all.ensures.any_moment told' log stands in
    let all' = subst (λ j. LeavesOnly g.D.Disk.moment g.D.Disk.left_since (disk_of j) (disk_of c.put_all.new.self.journal) (HasPrefix (length log) (log ++ c.deref.result.now))) new all in
    subst (λ (l : List Entry). LeavesOnly g.D.Disk.moment g.D.Disk.left_since (disk_of c.args.journal) (disk_of c.put_all.new.self.journal) (HasPrefix (length log) (log ++ l))) c.deref.ensures.value all'
