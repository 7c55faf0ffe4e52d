-- One row more each turn.
use Rattle.std.proofs.Common.{◌≡◌, ◌+◌, [], ℕ, List, get_or, sym, subst}
use Rattle.std.proofs.lemmas.List.{get_or_default}
use Rattle.registrar_book.specs.Opening.{Row}
use Rattle.registrar_book.proofs.Placing.{ArePlaced, places_more, rows_cause}
use Rattle.registrar_book.proofs.rows.place_rows.Goals as goal

-- the default where a row is read
no_row : Row
no_row = (record { 0 = [] }, [])

pub returns-in-Err-clause-same_key : goal.returns-in-Err-clause-same_key
unfolding no_row
returns-in-Err-clause-same_key c =
    let rows = c.args.rows.now in
    let i = c.loop-row.row-index in
    let row = get_or rows i no_row in
    let is : get_or rows i row ≡ row = sym (get_or_default rows i no_row row c.loop-row-test.true) in
    rows_cause c.args.known.now rows c.loop-row.known c.loop-row.contexts.items i row c.in-Err.fault c.loop-row-test.true is c.loop-row.invariant.placed c.in-Err.ensures.same_key

pub loop-row-preserved : goal.loop-row-preserved
unfolding no_row
loop-row-preserved c =
    let rows = c.args.rows.now in
    let i = c.loop-row.row-index in
    let row = get_or rows i no_row in
    let is : get_or rows i row ≡ row = sym (get_or_default rows i no_row row c.loop-row-test.true) in
    let made = c.in-Ok.ensures.placed in
    let more = places_more c.args.known.now rows c.loop-row.known c.place_row.new.known c.loop-row.contexts.items i c.in-Ok.context row c.loop-row-test.true is c.loop-row.invariant.placed made.0
    (made.1.0, made.1.1) in
    record { placed = subst (λ (l : List ℕ). ArePlaced c.args.known.now rows c.place_row.new.known l (i + 1)) (sym c.in_ok-push-in-Ok.ensures.items) more }
