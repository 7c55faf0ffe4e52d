use Rattle.std.proofs.Common.{◌≡◌, ℕ, ◌+◌, ◌++◌, false, Some, List, [], ◌∷◌, All, length, map, sym, ap, ◌∙◌, subst, arith, length-append}
use mathlib.Core.List.{IsPrefix}
use Rattle.std.proofs.lemmas.List.{nil_from_length}
use Rattle.std.proofs.lemmas.List.Elements.{All-pop, All-head, All-tail, All-weaker}
use Rattle.turn_lock.specs.declared.numbers.Numbers.{Numbers}
use Rattle.turn_lock.specs.declared.press.Worker.{Worker}
use Rattle.turn_lock.specs.Report.{GrowsTo}
use Rattle.turn_lock.specs.Numbers.{report_of, name_of}
use Rattle.turn_lock.specs.Press.{PressView, copy_report, copied_from}
use Rattle.turn_lock.specs.Locks.{LockView, PassView, ClosingView}
use Rattle.turn_lock.specs.History.{IsReported}
use Rattle.turn_lock.proofs.ListLemmas.{prefix_trans, All-unmap, map-pop}
use Rattle.turn_lock.proofs.press.end_both.Goals as goal

pub loop-worker-preserved : goal.loop-worker-preserved
loop-worker-preserved c =
    let inv = c.loop-worker.invariant in
    let y : Worker = c.in-Some.worker in
    let left : List Worker = c.pop.new.self.items in
    let D : Worker → PassView Numbers = λ (worker : Worker). worker.desk in
    let P : Worker → PassView PressView = λ (worker : Worker). worker.press in
    let told = c.take_back-next_desk.ensures in
    let told' = c.take_back-next_press.ensures in
    let items : length c.loop-worker.workers.items ≡ length left + 1 = ap length c.in-Some.ensures.items ∙ length-append left (y ∷ []) in
    let desks = All-pop (λ (worker : Worker). (worker.desk.lock ≡ c.args.desk) × (worker.desk.has_turn ≡ false)) c.loop-worker.workers.items left (Some y) c.in-Some.ensures.items inv.desk in
    let presses = All-pop (λ (worker : Worker). (worker.press.lock ≡ c.args.press) × (worker.press.has_turn ≡ false)) c.loop-worker.workers.items left (Some y) c.in-Some.ensures.items inv.press in
    record {
      at_desk = ap (λ (x : ClosingView Numbers). x.lock) told ∙ inv.at_desk;
      at_press = ap (λ (x : ClosingView PressView). x.lock) told' ∙ inv.at_press;
      desk_count = omega (arith, items, inv.desk_count, ap (λ (x : ClosingView Numbers). length x.passes) told);
      press_count = omega (arith, items, inv.press_count, ap (λ (x : ClosingView PressView). length x.passes) told');
      desks = ap (λ (x : ClosingView Numbers). map D left ++ x.passes) told ∙ map-pop D c.loop-worker.workers.items left y c.loop-worker.at_desk.passes (map D c.args.workers.items) c.in-Some.ensures.items inv.desks;
      presses = ap (λ (x : ClosingView PressView). map P left ++ x.passes) told' ∙ map-pop P c.loop-worker.workers.items left y c.loop-worker.at_press.passes (map P c.args.workers.items) c.in-Some.ensures.items inv.presses;
      desk = desks.0;
      press = presses.0;
    }

pub returns : goal.returns
returns c =
    let inv = c.loop-worker.invariant in
    let list : Numbers = c.finish-2.result in
    let last : PressView = c.finish.result in
    let pass : PassView Numbers = c.copy.inside.pass in
    let D : Worker → PassView Numbers = λ (worker : Worker). worker.desk in
    let P : Worker → PassView PressView = λ (worker : Worker). worker.press in
    let workers : List Worker = c.args.workers.items in
    let none : c.loop-worker.workers.items ≡ [] = nil_from_length c.loop-worker.workers.items (omega (arith, c.loop-worker.workers.ok, c.in_default.ensures.cases.0)) in
    let desks : c.loop-worker.at_desk.passes ≡ map D workers = ap (λ (l : List Worker). map D l ++ c.loop-worker.at_desk.passes) (sym none) ∙ inv.desks in
    let presses : c.loop-worker.at_press.passes ≡ map P workers = ap (λ (l : List Worker). map P l ++ c.loop-worker.at_press.passes) (sym none) ∙ inv.presses in
    let view : record { copy = c.copy.inside.copy.items; pass = pass } ≡ last = c.copy.view_is in
    let same : last.copy ≡ c.copy.inside.copy.items = ap (λ (p : PressView). p.copy) (sym view) in
    let own : pass ≡ last.pass = ap (λ (p : PressView). p.pass) view in
    let back = c.take_back-all_back.ensures in
    let Seen : PassView Numbers → Type 0 = λ (p : PassView Numbers). GrowsTo (report_of p.seen) (report_of list) in
    let Saw : PassView PressView → Type 0 = λ (p : PassView PressView). IsPrefix p.seen.copy c.copy.inside.copy.items in
    let seen : All Seen (pass ∷ map D workers) =
    let Q : ClosingView Numbers → Type 0 = λ (x : ClosingView Numbers). All Seen x.passes in
    let R : List (PassView Numbers) → Type 0 = λ (l : List (PassView Numbers)). All Seen (pass ∷ l) in
    subst R desks (subst Q back c.finish-2.ensures.seen) in
    let saw : All Saw (map P workers) =
    let Q : List ℕ → Type 0 = λ (l : List ℕ). All (λ (p : PassView PressView). IsPrefix p.seen.copy l) (map P workers) in
    let R : List (PassView PressView) → Type 0 = λ (l : List (PassView PressView)). All (λ (p : PassView PressView). GrowsTo (copy_report p.seen) (copy_report last)) l in
    subst Q same (All-weaker (λ (p : PassView PressView). GrowsTo (copy_report p.seen) (copy_report last)) (λ (p : PassView PressView). IsPrefix p.seen.copy last.copy) (λ p grown. grown.0) (map P workers) (subst R presses c.finish.ensures.seen)) in
    record {
      prefix = prefix_trans c.copy.inside.copy.items pass.seen.items.items list.items.items c.copy.invariant.1 (All-head Seen pass (map D workers) seen).0;
      desk = All-weaker (λ (w : Worker). Seen w.desk) (λ (w : Worker). IsPrefix w.desk.seen.items.items list.items.items) (λ w grown. grown.0) workers (All-unmap Seen D workers (All-tail Seen pass (map D workers) seen));
      press = All-unmap Saw P workers saw;
      last = record {
        last = last;
        copy_is = same;
        press_reports =
            let Q : List (PassView PressView) → Type 0 = λ (l : List (PassView PressView)). IsReported copy_report copied_from c.loop-worker.at_press.lock.opening last l in
            let R : LockView PressView → Type 0 = λ (lock : LockView PressView). IsReported copy_report copied_from lock.opening last (map P workers) in
            subst R inv.at_press (subst Q presses c.finish.ensures.reports);
        desk_reports =
            let Q : ClosingView Numbers → Type 0 = λ (x : ClosingView Numbers). IsReported report_of name_of x.lock.opening list x.passes in
            let R : List (PassView Numbers) → Type 0 = λ (l : List (PassView Numbers)). IsReported report_of name_of c.loop-worker.at_desk.lock.opening list (pass ∷ l) in
            let S : LockView Numbers → Type 0 = λ (lock : LockView Numbers). IsReported report_of name_of lock.opening list (pass ∷ map D workers) in
            let T : PassView Numbers → Type 0 = λ (p : PassView Numbers). IsReported report_of name_of c.args.desk.opening list (p ∷ map D workers) in
            subst T own (subst S inv.at_desk (subst R desks (subst Q back c.finish-2.ensures.reports)));
      };
    }
