use Rattle.std.proofs.Common.{List, ℕ, sym, subst, rules}
use Rattle.join_history.specs.Answers.{IsAnswer}
use Rattle.registrar_state.proofs.summary.sum_request.Goals as goal

pub returns : goal.returns
returns c = λ h context numbers are bits last. record {
  greatest = (are c.args.greatest).0 bits.taken;
  at_most = λ n has. bits.at_most n ((are n).1 has);
  window = λ i small. (
    λ one. let mark = (bits.marks i small).0 one in (mark.0, (are _).0 mark.1),
    λ mark. (bits.marks i small).1 (mark.0, (are _).1 mark.1),
  );
  window_fits = search rules;
  decision = last.decision;
  last = last.last;
  number = last.number;
  time = last.time;
  answer = subst (λ (bytes : List ℕ). IsAnswer h context c.args.last.now.number bytes) (sym c.copy_of_answer.ensures) last.answer;
}
