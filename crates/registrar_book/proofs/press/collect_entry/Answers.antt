-- An entry has room where its greatest size has.
use Rattle.std.proofs.Common.{arith}
use Rattle.registrar_book.proofs.Prefixes.{enroll_size, ok_unless}
use Rattle.registrar_book.proofs.press.collect_entry.Goals as goal

pub unwrap-requires : goal.unwrap-requires
unwrap-requires c =
    let size = enroll_size c.args.entry.now c.write_entry.ensures.fits c.write_entry.ensures.size in
    ok_unless c.write_entry.result _ c.write_entry.ensures.full (λ full is. omega (arith, is.0, is.1, size, c.requires.room))

pub returns-clause-size : goal.returns-clause-size
returns-clause-size c = enroll_size c.args.entry.now c.write_entry.ensures.fits c.write_entry.ensures.size
