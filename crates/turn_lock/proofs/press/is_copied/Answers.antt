use Rattle.std.proofs.Common.{◌≡◌, ℕ, List, ap, ◌∙◌}
use Rattle.turn_lock.specs.declared.numbers.Numbers.{Numbers}
use Rattle.turn_lock.specs.Locks.{PassView, with_turn, with_report, with_seen}
use Rattle.turn_lock.specs.Press.{PressView}
use Rattle.turn_lock.proofs.press.is_copied.Goals as goal

pub returns-clause-turn : goal.returns-clause-turn
returns-clause-turn g c =
    let told = c.has-copied.ensures in
    let found : PressView = c.take-held.result.value in
    let was : PressView = c.value.result.now in
    let left : PressView = c.has-copied.new.self in
    let list : Numbers = c.has-copied.new.pass.seen in
    let number : ℕ = c.give.ensures.0 in
    let C : List ℕ → PressView = λ (l : List ℕ). record { copy = l; pass = left.pass } in
    let P : PassView Numbers → PressView = λ (p : PassView Numbers). record { copy = was.copy; pass = p } in
    let S : PressView → PressView = λ (x : PressView). record { copy = x.copy; pass = with_seen x.pass list } in
    let left_is : left ≡ S found = ap C told.copy ∙ ap P told.desk ∙ ap S c.value.ensures.value in
    let R : PassView PressView → PassView PressView = λ (p : PassView PressView). with_report p number left in
    record {
      found = found;
      turn = record {
        number = number;
        after_is = c.give.ensures.1 ∙ ap R c.take-held.ensures.pass ∙ ap (λ (x : PressView). with_report (with_turn c.args.worker.now.press found) number x) left_is;
      };
      since = c.take-held.ensures.grown.0;
    }
