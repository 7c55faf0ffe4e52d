-- What is collected is one batch.
use Rattle.std.proofs.Common.{◌∙◌, refl, inr}
use Rattle.journal_store.specs.Area.{first_header}
use Rattle.journal_store.specs.Store.{disk_of, area_of, end_of}
use Rattle.registrar_book.proofs.Prefixes.{batch_of, wrote}
use Rattle.registrar_book.proofs.press.Press.put.Goals as goal

pub append-requires-clause-entries : goal.append-requires-clause-entries
append-requires-clause-entries g c = (
  c.args.entries.now,
  batch_of c.args.entries.now c.collect_batch.new.batch.items c.requires.some c.collect_batch.ensures.fits c.collect_batch.ensures.text c.collect_batch.ensures.most,
  c.as_slice.ensures.value ∙ c.collect_batch.ensures.text,
)

pub returns-in-Done-clause-ok : goal.returns-in-Done-clause-ok
returns-in-Done-clause-ok g c told log whole =
    let batch = batch_of c.args.entries.now c.collect_batch.new.batch.items c.requires.some c.collect_batch.ensures.fits c.collect_batch.ensures.text c.collect_batch.ensures.most in
    record {
      left = c.append.ensures.same.area ∙ whole.left;
      stands = c.append.ensures.done told c.in-Done.is first_header log c.args.entries.now whole.stands batch (c.as_slice.ensures.value ∙ c.collect_batch.ensures.text);
    }

pub returns-in-Done-clause-any_moment : goal.returns-in-Done-clause-any_moment
returns-in-Done-clause-any_moment g c told log whole =
    let batch = batch_of c.args.entries.now c.collect_batch.new.batch.items c.requires.some c.collect_batch.ensures.fits c.collect_batch.ensures.text c.collect_batch.ensures.most in
    wrote g.D.Disk.may_leave g.D.Disk.moment g.D.Disk.left_since (disk_of c.args.self.now.journal) (disk_of c.append.new.self) (area_of c.args.self.now.journal) (end_of c.args.self.now.journal) log c.args.entries.now whole.left
    (c.append.ensures.any_moment first_header log c.args.entries.now whole.stands batch (c.as_slice.ensures.value ∙ c.collect_batch.ensures.text) told)

pub returns-in-Failed-clause-err : goal.returns-in-Failed-clause-err
returns-in-Failed-clause-err g c told log whole =
    let batch = batch_of c.args.entries.now c.collect_batch.new.batch.items c.requires.some c.collect_batch.ensures.fits c.collect_batch.ensures.text c.collect_batch.ensures.most in
    inr (record {
      prefix = log;
      batch = c.args.entries.now;
      parts = refl;
      count = refl;
      left = c.append.ensures.same.area ∙ whole.left;
      pending = c.append.ensures.failed told c.in-Failed.is first_header log c.args.entries.now whole.stands batch (c.as_slice.ensures.value ∙ c.collect_batch.ensures.text);
    })

pub returns-in-Failed-clause-any_moment : goal.returns-in-Failed-clause-any_moment
returns-in-Failed-clause-any_moment g c told log whole =
    let batch = batch_of c.args.entries.now c.collect_batch.new.batch.items c.requires.some c.collect_batch.ensures.fits c.collect_batch.ensures.text c.collect_batch.ensures.most in
    wrote g.D.Disk.may_leave g.D.Disk.moment g.D.Disk.left_since (disk_of c.args.self.now.journal) (disk_of c.append.new.self) (area_of c.args.self.now.journal) (end_of c.args.self.now.journal) log c.args.entries.now whole.left
    (c.append.ensures.any_moment first_header log c.args.entries.now whole.stands batch (c.as_slice.ensures.value ∙ c.collect_batch.ensures.text) told)

pub append-requires-clause-stands : goal.append-requires-clause-stands
append-requires-clause-stands g c told = let was = c.requires.stands told in (first_header, was.0, was.1.stands)
