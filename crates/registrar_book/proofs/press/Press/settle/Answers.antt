-- What was pending is settled, by each answer of the journal.
use Rattle.std.proofs.Common.{◌≡◌, ◌≢◌, List, [], ◌∙◌, sym, subst, inr}
use Rattle.std.specs.Prelude.{IsTrue}
use Rattle.journal_text.specs.declared.entry.Entry.{Entry}
use Rattle.journal_store.specs.declared.fault.Settled.TheVariants as settled
use Rattle.journal_store.specs.Area.{first_header}
use Rattle.journal_store.specs.Store.{disk_of, area_of, end_of, pending_of}
use Rattle.registrar_book.specs.Journals.{HasLog}
use Rattle.registrar_book.proofs.Prefixes.{nothing_pending, is_pending, looked, wrote_again}
use Rattle.registrar_book.proofs.press.Press.settle.Goals as goal

again_is_something : settled.Again ≡ settled.Nothing → ⊥
again_is_something e = cc

failed_is_something : settled.Failed ≡ settled.Nothing → ⊥
failed_is_something e = cc

durable_is_something : settled.Durable ≡ settled.Nothing → ⊥
durable_is_something e = cc

pub again-requires-clause-shut : goal.again-requires-clause-shut
again-requires-clause-shut g c told =
    let told' = subst (λ b. IsTrue b) c.settle.ensures.same.disk.tells told in
    let held = c.requires.held told' in
    let some : pending_of c.args.self.now.journal ≢ [] = λ none. again_is_something (sym c.in-Again.is ∙ c.settle.ensures.nothing.1 none) in
    let ends = is_pending g.D.Disk.may_leave c.args.self.now.journal held.0 held.1 held.2 some in
    (first_header, ends.prefix, ends.batch, c.settle.ensures.again told' c.in-Again.is first_header ends.prefix ends.batch ends.pending)

pub returns-in-Nothing-clause-ok : goal.returns-in-Nothing-clause-ok
returns-in-Nothing-clause-ok g c told log durable held =
    let none = c.settle.ensures.nothing.0 c.in-Nothing.is in
    subst (λ j. HasLog g.D.Disk.may_leave j log) (sym (c.settle.ensures.unchanged c.in-Nothing.is)) (nothing_pending g.D.Disk.may_leave c.args.self.now.journal log durable held none).0

pub returns-in-Nothing-clause-any_moment : goal.returns-in-Nothing-clause-any_moment
returns-in-Nothing-clause-any_moment g c told log durable held =
    looked g.D.Disk.may_leave g.D.Disk.moment g.D.Disk.left_since c.args.self.now.journal (disk_of c.settle.new.self) log durable held (c.settle.ensures.untouched.any_moment told)

pub returns-in-Durable-clause-ok : goal.returns-in-Durable-clause-ok
returns-in-Durable-clause-ok g c told log durable held =
    let some : pending_of c.args.self.now.journal ≢ [] = λ none. durable_is_something (sym c.in-Durable.is ∙ c.settle.ensures.nothing.1 none) in
    let ends = is_pending g.D.Disk.may_leave c.args.self.now.journal log durable held some in
    subst (λ (l : List Entry). HasLog g.D.Disk.may_leave c.settle.new.self l) (sym ends.parts)
    (record { left = c.settle.ensures.same.area ∙ ends.left; stands = c.settle.ensures.durable told c.in-Durable.is first_header ends.prefix ends.batch ends.pending })

pub returns-in-Durable-clause-any_moment : goal.returns-in-Durable-clause-any_moment
returns-in-Durable-clause-any_moment g c told log durable held =
    looked g.D.Disk.may_leave g.D.Disk.moment g.D.Disk.left_since c.args.self.now.journal (disk_of c.settle.new.self) log durable held (c.settle.ensures.untouched.any_moment told)

pub returns-in-Done-clause-ok : goal.returns-in-Done-clause-ok
returns-in-Done-clause-ok g c told log durable held =
    let told' = subst (λ b. IsTrue b) (sym c.settle.ensures.same.disk.tells) told in
    let some : pending_of c.args.self.now.journal ≢ [] = λ none. again_is_something (sym c.in-Again.is ∙ c.settle.ensures.nothing.1 none) in
    let ends = is_pending g.D.Disk.may_leave c.args.self.now.journal log durable held some in
    let shut = c.settle.ensures.again told c.in-Again.is first_header ends.prefix ends.batch ends.pending in
    subst (λ (l : List Entry). HasLog g.D.Disk.may_leave c.again.new.self l) (sym ends.parts)
    (record { left = c.again.ensures.same.area ∙ c.settle.ensures.same.area ∙ ends.left; stands = c.again.ensures.done told' c.in-Done.is first_header ends.prefix ends.batch shut })

pub returns-in-Done-clause-any_moment : goal.returns-in-Done-clause-any_moment
returns-in-Done-clause-any_moment g c told log durable held =
    let told' = subst (λ b. IsTrue b) (sym c.settle.ensures.same.disk.tells) told in
    let some : pending_of c.args.self.now.journal ≢ [] = λ none. again_is_something (sym c.in-Again.is ∙ c.settle.ensures.nothing.1 none) in
    let ends = is_pending g.D.Disk.may_leave c.args.self.now.journal log durable held some in
    let shut = c.settle.ensures.again told c.in-Again.is first_header ends.prefix ends.batch ends.pending in
    wrote_again g.D.Disk.may_leave g.D.Disk.moment g.D.Disk.left_since c.args.self.now.journal (disk_of c.settle.new.self) (disk_of c.again.new.self) log durable (area_of c.settle.new.self) (end_of c.settle.new.self) held ends
    (c.settle.ensures.same.area ∙ ends.left) (c.settle.ensures.untouched.any_moment told) (c.again.ensures.any_moment first_header ends.prefix ends.batch shut told')

pub returns-in-Failed-again-clause-err : goal.returns-in-Failed-again-clause-err
returns-in-Failed-again-clause-err g c told log durable held =
    let told' = subst (λ b. IsTrue b) (sym c.settle.ensures.same.disk.tells) told in
    let some : pending_of c.args.self.now.journal ≢ [] = λ none. again_is_something (sym c.in-Again.is ∙ c.settle.ensures.nothing.1 none) in
    let ends = is_pending g.D.Disk.may_leave c.args.self.now.journal log durable held some in
    let shut = c.settle.ensures.again told c.in-Again.is first_header ends.prefix ends.batch ends.pending in
    inr (record { prefix = ends.prefix; batch = ends.batch; parts = ends.parts; count = ends.count; left = c.again.ensures.same.area ∙ c.settle.ensures.same.area ∙ ends.left; pending = c.again.ensures.failed told' c.in-Failed-again.is first_header ends.prefix ends.batch shut })

pub returns-in-Failed-again-clause-any_moment : goal.returns-in-Failed-again-clause-any_moment
returns-in-Failed-again-clause-any_moment g c told log durable held =
    let told' = subst (λ b. IsTrue b) (sym c.settle.ensures.same.disk.tells) told in
    let some : pending_of c.args.self.now.journal ≢ [] = λ none. again_is_something (sym c.in-Again.is ∙ c.settle.ensures.nothing.1 none) in
    let ends = is_pending g.D.Disk.may_leave c.args.self.now.journal log durable held some in
    let shut = c.settle.ensures.again told c.in-Again.is first_header ends.prefix ends.batch ends.pending in
    wrote_again g.D.Disk.may_leave g.D.Disk.moment g.D.Disk.left_since c.args.self.now.journal (disk_of c.settle.new.self) (disk_of c.again.new.self) log durable (area_of c.settle.new.self) (end_of c.settle.new.self) held ends
    (c.settle.ensures.same.area ∙ ends.left) (c.settle.ensures.untouched.any_moment told) (c.again.ensures.any_moment first_header ends.prefix ends.batch shut told')

pub returns-in-Failed-clause-err : goal.returns-in-Failed-clause-err
returns-in-Failed-clause-err g c told log durable held =
    let some : pending_of c.args.self.now.journal ≢ [] = λ none. failed_is_something (sym c.in-Failed.is ∙ c.settle.ensures.nothing.1 none) in
    let ends = is_pending g.D.Disk.may_leave c.args.self.now.journal log durable held some in
    inr (record { prefix = ends.prefix; batch = ends.batch; parts = ends.parts; count = ends.count; left = c.settle.ensures.same.area ∙ ends.left; pending = c.settle.ensures.failed told c.in-Failed.is first_header ends.prefix ends.batch ends.pending })

pub returns-in-Failed-clause-any_moment : goal.returns-in-Failed-clause-any_moment
returns-in-Failed-clause-any_moment g c told log durable held =
    looked g.D.Disk.may_leave g.D.Disk.moment g.D.Disk.left_since c.args.self.now.journal (disk_of c.settle.new.self) log durable held (c.settle.ensures.untouched.any_moment told)

pub settle-requires-clause-pending : goal.settle-requires-clause-pending
settle-requires-clause-pending g c told some =
    let held = c.requires.held told in
    let ends = is_pending g.D.Disk.may_leave c.args.self.now.journal held.0 held.1 held.2 some in
    (first_header, ends.prefix, ends.batch, ends.pending)
