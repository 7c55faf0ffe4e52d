use Rattle.std.proofs.Common.{◌≡◌, ◌++◌, ◌∷◌, [], ℕ, Some, List, length, ap, subst, ◌∙◌, sym, arith}
use Rattle.registrar_book.specs.Opening.{Row}
use Rattle.registrar_book.specs.Index.{IsIndexOf}
use Rattle.registrar_book.proofs.IndexLemmas.{IsIndexOf-push}
use Rattle.registrar_book.proofs.known.KnownRows.add.Goals as goal

pub invariant_of-self-2 : goal.invariant_of-self-2
invariant_of-self-2 c =
    let check = λ (row : Row). row.1 in
    let updates = c.in_ok-insert.ensures.updates in
    let items : c.push_reserved.new.self.items ≡ c.self.inside.rows.items ++ c.args.row ∷ [] =
    c.push_reserved.ensures.items ∙ ap (λ (rows : List Row). rows ++ c.args.row ∷ []) c.reserve.ensures.items in
    subst (λ (rows : List Row). IsIndexOf check rows c.insert.new.self.entries) (sym items)
    (IsIndexOf-push check c.self.inside.rows.items c.self.inside.places.entries c.insert.new.self.entries c.args.row c.self.invariant
    (updates.1 ∙ ap (λ (n : ℕ). Some n) (omega (arith, c.len.ensures, ap (λ (rows : List Row). length rows) c.reserve.ensures.items))) updates.2)
