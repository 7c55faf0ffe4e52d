use Rattle.std.proofs.Common.{◌≡◌, ◌∙◌, ◌+◌, sym, ap, [], ◌∷◌, ◌++◌, false, length, take, drop, get_or, None, List, arith, add-one, drop-cons}
use Rattle.std.proofs.lemmas.List.{take_more, length-take-le}
use Rattle.join_policy.specs.declared.row.Row.{Row}
use Rattle.join_policy.specs.Index.{IsIndexOf}
use Rattle.join_policy.specs.Rows.{place_of, twice_after}
use Rattle.join_policy.proofs.Places.{index_push, twice_more}
use Rattle.join_policy.proofs.index.index_of.Goals as goal

pub loop-place-preserved : goal.loop-place-preserved
loop-place-preserved c =
    let l = c.loop-place in
    let rows = c.args.rows.now in
    let no_row : Row = record { id = record { 0 = [] }; psk = []; allow = false; sixlbr = false } in
    let row = get_or rows l.place no_row in
    let absent = sym c.in-Ok-None.field-0-is ∙ c.in-Ok-None.ensures.old in
    let size : length (take l.place rows) ≡ l.place = length-take-le l.place rows (omega (arith, c.loop-place-test.true)) in
    let more : take (l.place + 1) rows ≡ take l.place rows ++ row ∷ [] = take_more rows l.place no_row c.loop-place-test.true in
    let cut : drop l.place rows ≡ row ∷ drop (l.place + 1) rows = rw add-one (drop-cons rows l.place no_row c.loop-place-test.true) in
    let pushed : IsIndexOf c.insert.new.self (take l.place rows ++ row ∷ []) =
    index_push l.index c.insert.new.self (take l.place rows) row l.invariant.0 absent (rw size c.in-Ok-None.ensures.updates) in
    let fresh : place_of row.id (take l.place rows) ≡ None = sym (absent ∙ l.invariant.0 row.id) in (
      rw more pushed,
      rw more (sym (twice_more (take l.place rows) (drop (l.place + 1) rows) row fresh)
          ∙ ap (λ (rest : List Row). twice_after (take l.place rows) rest) (sym cut)
          ∙ l.invariant.1),
    )
