use Rattle.std.proofs.Common.{◌≡◌, ◌≢◌, refl, rules}
use Rattle.registrar_state.proofs.ReleaseLemmas.{aged_without, aged_of_other, aged_by_last}
use Rattle.registrar_state.proofs.contexts.Row.is_aged.Goals as goal

pub returns-in-None : goal.returns-in-None
returns-in-None c = λ h d legal is.
    (λ _. aged_without h d c.args.self.now c.args.pledge c.args.time is c.in-None.is, λ _. refl)

pub returns-then-ne : goal.returns-then-ne
returns-then-ne c = λ h d legal is.
    let other : c.args.self.now.id ≢ c.args.pledge = search rules in
    (λ _. aged_of_other h d c.args.self.now c.args.pledge c.args.time legal is other, λ _. c.if-ne.true)

pub returns-else-ne : goal.returns-else-ne
returns-else-ne c = λ h d legal is.
    let own : c.args.self.now.id ≡ c.args.pledge = search rules in
    aged_by_last h d c.args.self.now c.in-Some.last c.args.pledge c.args.time c.has_aged.result legal is c.in-Some.is own c.has_aged.ensures
