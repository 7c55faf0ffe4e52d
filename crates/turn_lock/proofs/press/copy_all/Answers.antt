use Rattle.std.proofs.Common.{ℕ, ap, ◌∙◌, subst}
use mathlib.Core.List.{IsPrefix}
use Rattle.turn_lock.specs.Locks.{PassView, with_report}
use Rattle.turn_lock.specs.Press.{PressView}
use Rattle.turn_lock.specs.Copying.{HasLooked}
use Rattle.turn_lock.proofs.press.copy_all.Goals as goal

pub returns-clause-turn : goal.returns-clause-turn
returns-clause-turn g c =
    let told = c.copy_rest-copied.ensures in
    let left : PressView = c.copy_rest-copied.new.self in
    let number : ℕ = c.give.ensures.0 in
    let P : PressView → Type 0 = λ (p : PressView). IsPrefix p.copy left.copy in
    let Q : PressView → Type 0 = λ (p : PressView). HasLooked p.pass left.pass in
    record {
      found = c.take-held.result.value;
      left = left;
      turn = record { number = number; after_is = c.give.ensures.1 ∙ ap (λ (p : PassView PressView). with_report p number left) c.take-held.ensures.pass };
      since = c.take-held.ensures.grown.0;
      grown = subst P c.value.ensures.value told.grown;
      looked = subst Q c.value.ensures.value told.desk;
    }
