use Rattle.registrar_book.proofs.Placing.{ArePlaced}
use Rattle.registrar_book.proofs.rows.place_rows.Given as goal

abbrev pub invariant-loop-row : goal.invariant-loop-row
invariant-loop-row l = record { placed : ArePlaced l.fn.known l.rows l.known l.contexts.items l.row-index }
