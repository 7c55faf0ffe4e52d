use Rattle.std.proofs.Common.{List, subst}
use Rattle.journal_text.specs.declared.entry.Entry.{Entry}
use Rattle.registrar_book.specs.Opening.{OpenCause}
use Rattle.registrar_book.proofs.opening.prepare.Goals as goal

pub returns-in-Err-clause-err : goal.returns-in-Err-clause-err
returns-in-Err-clause-err c =
    let cause = c.in-Err.ensures.err c.args.opening.now.settings c.args.opening.now.rows.items c.args.now in
    subst (λ (l : List Entry). OpenCause l c.args.opening.now.settings c.args.opening.now.rows.items c.args.now c.in-Err.fault) c.deref.ensures.value cause
