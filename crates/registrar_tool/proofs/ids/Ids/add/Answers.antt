use Rattle.std.proofs.Common.{◌≡◌, ◌++◌, ◌∷◌, [], ℕ, Some, List, length, ap, subst, ◌∙◌, sym, arith}
use Rattle.edge_traits.specs.declared.names.PledgeId.{PledgeId}
use Rattle.registrar_book.specs.Index.{IsIndexOf}
use Rattle.registrar_book.proofs.IndexLemmas.{IsIndexOf-push}
use Rattle.registrar_tool.proofs.ids.Ids.add.Goals as goal

pub invariant_of-self-2 : goal.invariant_of-self-2
invariant_of-self-2 c =
    let bytes = λ (id : PledgeId). id.0 in
    let updates = c.in_ok-insert.ensures.updates in
    let items : c.push_reserved.new.self.items ≡ c.self.inside.ids.items ++ c.args.id ∷ [] =
    c.push_reserved.ensures.items ∙ ap (λ (ids : List PledgeId). ids ++ c.args.id ∷ []) c.reserve.ensures.items in
    subst (λ (ids : List PledgeId). IsIndexOf bytes ids c.insert.new.self.entries) (sym items)
    (IsIndexOf-push bytes c.self.inside.ids.items c.self.inside.places.entries c.insert.new.self.entries c.args.id c.self.invariant
    (updates.1 ∙ ap (λ (n : ℕ). Some n) (omega (arith, c.len.ensures, ap (λ (ids : List PledgeId). length ids) c.reserve.ensures.items))) updates.2)
