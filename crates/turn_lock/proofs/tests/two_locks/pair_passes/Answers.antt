use Rattle.std.proofs.Common.{◌≡◌, ◌+◌, ◌∷◌, [], Some, All, false, length, ap, sym, ◌∙◌, subst, arith, length-append}
use Rattle.std.proofs.lemmas.List.Elements.{All-pop, All-push}
use Rattle.turn_lock.specs.declared.numbers.Numbers.{Numbers}
use Rattle.turn_lock.specs.declared.press.Worker.{Worker}
use Rattle.turn_lock.specs.Press.{PressView}
use Rattle.turn_lock.specs.Locks.{PassView}
use Rattle.turn_lock.proofs.tests.two_locks.pair_passes.Goals as goal

pub loop-pass-preserved : goal.loop-pass-preserved
loop-pass-preserved c =
    let inv = c.loop-pass.invariant in
    let desk = c.args.desk.now in
    let press = c.args.press.now in
    let made : Worker = record { desk = c.in-Some-pop.other; press = c.in-Some.pass } in
    let P : PassView Numbers → Type 0 = λ (pass : PassView Numbers). (pass.lock ≡ desk) × (pass.has_turn ≡ false) in
    let Q : PassView PressView → Type 0 = λ (pass : PassView PressView). (pass.lock ≡ press) × (pass.has_turn ≡ false) in
    let A : Worker → Type 0 = λ (worker : Worker). (worker.desk.lock ≡ desk) × (worker.desk.has_turn ≡ false) in
    let B : Worker → Type 0 = λ (worker : Worker). (worker.press.lock ≡ press) × (worker.press.has_turn ≡ false) in
    let items : length c.loop-pass.presses.items ≡ length c.pop.new.self.items + 1 = ap length c.in-Some.ensures.items ∙ length-append c.pop.new.self.items (c.in-Some.pass ∷ []) in
    let grown : length c.push_reserved.new.self.items ≡ length c.loop-pass.workers.items + 1 = ap length c.push_reserved.ensures.items ∙ length-append c.loop-pass.workers.items (made ∷ []) in
    let desks = All-pop P c.loop-pass.desks.items c.pop-in-Some.new.self.items (Some c.in-Some-pop.other) c.in-Some-pop.ensures.items inv.desks in
    let presses = All-pop Q c.loop-pass.presses.items c.pop.new.self.items (Some c.in-Some.pass) c.in-Some.ensures.items inv.presses in
    record {
      desks = desks.0;
      presses = presses.0;
      count = omega (arith, items, grown, inv.count);
      room = omega (arith, inv.room, c.push_reserved.ensures.len, c.push_reserved.ensures.capacity, c.pop.ensures.len, c.in-Some.ensures.len);
      desk = subst (All A) (sym c.push_reserved.ensures.items) (All-push A c.loop-pass.workers.items made inv.desk desks.1);
      press = subst (All B) (sym c.push_reserved.ensures.items) (All-push B c.loop-pass.workers.items made inv.press presses.1);
    }
