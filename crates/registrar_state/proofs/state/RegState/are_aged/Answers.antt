use Rattle.std.proofs.Common.{refl, rules, arith}
use Rattle.std.proofs.lemmas.Bool.{false≢true}
use Rattle.registrar_state.proofs.ReleaseLemmas.{few_rows, all_aged, one_aged}
use Rattle.registrar_state.proofs.state.RegState.are_aged.Goals as goal

pub overflow_cast-context-end : goal.overflow_cast-context-end
overflow_cast-context-end c =
    let few = few_rows c.args.self.now c.requires in omega (arith, few, c.len-context-end.ensures)

pub returns-then-not-is_aged : goal.returns-then-not-is_aged
returns-then-not-is_aged c = λ h stands. (
  λ yes. absurd (false≢true yes),
  λ all.
      let aged = (c.is_aged.ensures h stands).1 (one_aged h c.loop-context.context c.args.pledge c.args.time all) in
      absurd (search rules),
)

pub returns : goal.returns
returns c = λ h stands. (
  λ _. all_aged c.args.self.now h c.args.pledge c.args.time c.loop-context.context stands
      (omega (arith, c.loop-context-test.false, c.len-context-end.ensures)) (c.loop-context.invariant h stands),
  λ _. refl,
)
