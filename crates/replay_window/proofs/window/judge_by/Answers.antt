use Rattle.std.proofs.Common.{sym, subst, arith}
use Rattle.std.proofs.lemmas.Bool.{eqb-true, eqb-false}
use Rattle.replay_window.specs.Parts.{StandsFor}
use Rattle.replay_window.proofs.WindowLemmas.{fresh_above, taken_by_bit, fresh_by_bit}
use Rattle.replay_window.proofs.window.judge_by.Goals as goal

pub returns-then-number-greatest : goal.returns-then-number-greatest
returns-then-number-greatest c = λ numbers stands.
    let are = subst (StandsFor numbers) c.in-Some.is stands in
    fresh_above numbers c.in-Some.greatest c.in-Some.bits c.args.number are (omega arith)

pub returns-then-is_marked : goal.returns-then-is_marked
returns-then-is_marked c = λ numbers stands.
    let are = subst (StandsFor numbers) c.in-Some.is stands in
    taken_by_bit numbers c.in-Some.greatest c.in-Some.bits c.args.number are (omega arith) (omega arith)
    (eqb-true _ _ (sym c.if-is_marked.ensures))

pub returns-else-is_marked : goal.returns-else-is_marked
returns-else-is_marked c = λ numbers stands.
    let are = subst (StandsFor numbers) c.in-Some.is stands in
    fresh_by_bit numbers c.in-Some.greatest c.in-Some.bits c.args.number are (omega arith) (omega arith)
    (eqb-false _ _ (sym c.if-is_marked.ensures))
