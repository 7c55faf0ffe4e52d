use Rattle.std.proofs.Common.{ℕ, sym, subst}
use Rattle.join_history.specs.Decisions.{IsDecision}
use Rattle.join_history.specs.Answers.{IsAnswer}
use Rattle.join_history.proofs.LastLemmas.{IsLast-contains}
use Rattle.registrar_state.proofs.restore.last_request.Goals as goal

pub returns : goal.returns
returns c = λ h context legal is. record {
  decision = is.decision;
  last = is.last;
  number = is.number;
  time = is.time;
  answer = subst (IsAnswer h context c.args.request.now.number) (sym c.copy_of_answer.ensures) is.answer;
  told = c.told_of.ensures h context c.args.request.now.number is.decision legal
      (IsLast-contains (λ x. (n : ℕ) × IsDecision context n x) h is.decision is.last) is.number is.time
      (subst (IsAnswer h context c.args.request.now.number) (sym c.as_slice.ensures.value) is.answer);
}
