use Rattle.std.proofs.Common.{◌≡◌, ℕ, ap, ◌∙◌, subst}
use Rattle.turn_lock.specs.declared.numbers.Numbers.{Numbers}
use Rattle.turn_lock.specs.Locks.{PassView, with_turn, with_report}
use Rattle.turn_lock.specs.Press.{PressView}
use Rattle.turn_lock.specs.Copying.{HasLooked}
use Rattle.turn_lock.proofs.press.Press.copy_rest.Goals as goal

pub returns-clause-desk : goal.returns-clause-desk
returns-clause-desk g c =
    let before : PassView Numbers = c.self.inside.pass in
    let found : Numbers = c.take-held.result.value in
    let number : ℕ = c.give.ensures.0 in
    let turn : c.give.new.pass ≡ with_report (with_turn before found) number found =
    c.give.ensures.1
    ∙ ap (λ (p : PassView Numbers). with_report p number c.value-numbers.result.now) c.take-held.ensures.pass
    ∙ ap (λ (x : Numbers). with_report (with_turn before found) number x) c.value-numbers.ensures.value in
    let P : PressView → Type 0 = λ (p : PressView). HasLooked p.pass c.give.new.pass in
    subst P c.self.view_is record { found = found; grown = c.take-held.ensures.grown; turn = record { number = number; after_is = turn } }
