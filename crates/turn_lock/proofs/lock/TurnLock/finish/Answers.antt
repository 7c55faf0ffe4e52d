use Rattle.std.proofs.Common.{◌≡◌, false, Some, [], ◌∷◌, ◌++◌, All, List, sym, ap, ◌∙◌, subst, arith, append_assoc}
use Rattle.std.proofs.lemmas.List.{nil_from_length}
use Rattle.std.proofs.lemmas.List.Elements.{All-pop}
use Rattle.turn_lock.specs.Report.{GrowsTo}
use Rattle.turn_lock.specs.Locks.{PassView, ClosingView}
use Rattle.turn_lock.proofs.lock.TurnLock.finish.Goals as goal

pub loop-pass-preserved : goal.loop-pass-preserved
loop-pass-preserved g c =
    let V = g.row.V.Denot in
    let inv = c.loop-pass.invariant in
    let y : PassView V = c.in-Some.pass in
    let left : List (PassView V) = c.pop.new.self.items in
    let back : List (PassView V) = c.loop-pass.closing.passes in
    let told = c.take_back-next.ensures in
    let locks = All-pop (λ (pass : PassView V). pass.lock ≡ c.args.self) c.loop-pass.passes.items left (Some y) c.in-Some.ensures.items inv.locks in
    let idles = All-pop (λ (pass : PassView V). pass.has_turn ≡ false) c.loop-pass.passes.items left (Some y) c.in-Some.ensures.items inv.ended in
    record {
      lock = ap (λ (x : ClosingView V). x.lock) told ∙ inv.lock;
      cut = ap (λ (x : ClosingView V). left ++ x.passes) told ∙ sym (append_assoc left (y ∷ []) back) ∙ ap (λ (l : List (PassView V)). l ++ back) (sym c.in-Some.ensures.items) ∙ inv.cut;
      locks = locks.0;
      ended = idles.0;
    }

pub returns-clause-seen : goal.returns-clause-seen
returns-clause-seen g c =
    let V = g.row.V.Denot in
    let P : List (PassView V) → Type 0 = λ l. All (λ (pass : PassView V). GrowsTo (g.V.Reports.report pass.seen) (g.V.Reports.report c.finish.result)) l in
    let none : c.loop-pass.passes.items ≡ [] = nil_from_length c.loop-pass.passes.items (omega (arith, c.loop-pass.passes.ok, c.in_default.ensures.cases.0)) in
    let whole : c.loop-pass.closing.passes ≡ c.args.passes.items = ap (λ (l : List (PassView V)). l ++ c.loop-pass.closing.passes) (sym none) ∙ c.loop-pass.invariant.cut in
    subst P whole c.finish.ensures.seen
