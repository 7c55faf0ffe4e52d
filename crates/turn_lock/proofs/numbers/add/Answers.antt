use Rattle.std.proofs.Common.{ap, ◌∙◌, subst}
use Rattle.turn_lock.specs.declared.numbers.Numbers.{Numbers}
use Rattle.turn_lock.specs.Numbers.{IsPushed}
use Rattle.turn_lock.specs.Locks.{PassView, with_report}
use Rattle.turn_lock.proofs.numbers.add.Goals as goal

pub returns-clause-turn : goal.returns-clause-turn
returns-clause-turn g c =
    let told = c.push-place.ensures in
    let left : Numbers = c.push-place.new.self in
    let P : Numbers → Type 0 = λ (found : Numbers). IsPushed found c.args.number c.push-place.result left in
    record {
      found = c.take-held.result.value;
      left = left;
      turn = record { number = c.give.ensures.0; after_is = c.give.ensures.1 ∙ ap (λ (p : PassView Numbers). with_report p c.give.ensures.0 left) c.take-held.ensures.pass };
      grown = c.take-held.ensures.grown;
      pushed = subst P c.value.ensures.value (record { items = told.items; tries = told.tries; most = told.most; name = told.name });
    }
