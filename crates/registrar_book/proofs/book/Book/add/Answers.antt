-- The entry is durable, or it is pending after what is durable.
use Rattle.std.proofs.Common.{◌≡◌, ◌++◌, ℕ, List, length, ◌∙◌, refl, sym, ap, subst, inl}
use Rattle.edge_traits.specs.Disk.{LeavesOnly}
use Rattle.journal_text.specs.declared.entry.Entry.{Entry}
use Rattle.journal_store.specs.Store.{disk_of}
use Rattle.registrar_book.specs.Journals.{HasLog, IsHeld, HasPrefix}
use Rattle.registrar_book.specs.Books.{IsKept, log_of}
use Rattle.registrar_book.proofs.Prefixes.{stayed}
use Rattle.registrar_book.proofs.book.Book.add.Goals as goal

pub returns-then-len-ge-ENTRY_LIMIT-clause-kept : goal.returns-then-len-ge-ENTRY_LIMIT-clause-kept
unfolding IsKept
returns-then-len-ge-ENTRY_LIMIT-clause-kept g c told = inl (c.requires.stands told, c.requires.durable)

pub returns-then-len-ge-ENTRY_LIMIT-clause-any_moment : goal.returns-then-len-ge-ENTRY_LIMIT-clause-any_moment
returns-then-len-ge-ENTRY_LIMIT-clause-any_moment g c told =
    stayed g.D.Disk.may_leave g.D.Disk.moment g.D.Disk.left_since c.args.self.now.press.journal (log_of c.args.self.now) (length (log_of c.args.self.now)) (inl (c.requires.stands told, refl))
    (λ image left. g.met.D.Disk.only_now (disk_of c.args.self.now.press.journal) image left)

pub returns-in_default-clause-kept : goal.returns-in_default-clause-kept
unfolding IsKept
returns-in_default-clause-kept g c told =
    let held = c.in_default.ensures.err told (log_of c.args.self.now) (c.requires.stands told) in
    let held' = subst (λ (l : List Entry). IsHeld g.D.Disk.may_leave c.put.new.self.journal l (length (log_of c.args.self.now))) (sym (c.add.ensures.log ∙ ap (λ (l : List Entry). log_of c.args.self.now ++ l) (sym c.from_ref.ensures.value))) held in
    subst (λ (n : ℕ). IsHeld g.D.Disk.may_leave c.put.new.self.journal c.add.new.self.log.items n) (sym (c.add.ensures.durable ∙ c.requires.durable)) held'

pub returns-in_default-clause-any_moment : goal.returns-in_default-clause-any_moment
returns-in_default-clause-any_moment g c told =
    let all = c.put.ensures.any_moment told (log_of c.args.self.now) (c.requires.stands told) in
    subst (λ (l : List Entry). LeavesOnly g.D.Disk.moment g.D.Disk.left_since (disk_of c.args.self.now.press.journal) (disk_of c.put.new.self.journal)
    (HasPrefix (length (log_of c.args.self.now)) l)) (sym (c.add.ensures.log ∙ ap (λ (l : List Entry). log_of c.args.self.now ++ l) (sym c.from_ref.ensures.value))) all

pub returns-clause-kept : goal.returns-clause-kept
unfolding IsKept
returns-clause-kept g c told =
    let stands = c.in-Ok.ensures.ok told (log_of c.args.self.now) (c.requires.stands told) in
    let log : c.settled.new.self.log.items ≡ log_of c.args.self.now ++ c.from_ref.result.now = ap (λ v. v.items) c.settled.ensures.log ∙ c.add.ensures.log ∙ ap (λ (l : List Entry). log_of c.args.self.now ++ l) (sym c.from_ref.ensures.value) in
    inl (subst (λ (l : List Entry). HasLog g.D.Disk.may_leave c.put.new.self.journal l) (sym log) stands, c.settled.ensures.durable)

pub returns-clause-any_moment : goal.returns-clause-any_moment
returns-clause-any_moment g c told =
    let all = c.put.ensures.any_moment told (log_of c.args.self.now) (c.requires.stands told) in
    let log : c.settled.new.self.log.items ≡ log_of c.args.self.now ++ c.from_ref.result.now = ap (λ v. v.items) c.settled.ensures.log ∙ c.add.ensures.log ∙ ap (λ (l : List Entry). log_of c.args.self.now ++ l) (sym c.from_ref.ensures.value) in
    subst (λ (l : List Entry). LeavesOnly g.D.Disk.moment g.D.Disk.left_since (disk_of c.args.self.now.press.journal) (disk_of c.put.new.self.journal)
    (HasPrefix (length (log_of c.args.self.now)) l)) (sym log) all
