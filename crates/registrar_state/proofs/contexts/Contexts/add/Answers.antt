use Rattle.std.proofs.Common.{ℕ, ◌<◌, length, Some, ap, ◌∙◌, subst, sym, arith}
use Rattle.registrar_state.specs.Contexts.{Table, IsNewCheck}
use Rattle.registrar_state.proofs.NumberLemmas.{AreNumbers-push}
use Rattle.registrar_state.proofs.contexts.Contexts.add.Goals as goal

pub invariant_of-self : goal.invariant_of-self
invariant_of-self c =
    let is_new = subst (λ (t : Table). IsNewCheck t.rows c.args.row.check) (sym c.self.view_is) c.requires.new_check in
    let few = subst (λ (t : Table). length t.rows < 32768) (sym c.self.view_is) c.requires.few in
    let all = AreNumbers-push c.self.inside.rows.items c.self.inside.numbers.entries c.add_number.new.numbers.entries c.args.row c.self.invariant is_new
    (c.add_number.ensures.set ∙ ap (λ (x : ℕ). Some x) (omega (arith, few, c.len-number.ensures))) c.add_number.ensures.others in
    rw c.push_reserved.ensures.items all
