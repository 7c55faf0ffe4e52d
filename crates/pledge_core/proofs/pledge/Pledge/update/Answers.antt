use Rattle.std.proofs.Common.{ℕ, List, [], ◌∷◌, Option, subst, sym, ap, ◌∙◌}
use Rattle.replay_window.specs.declared.judged.Judged.{Judged}
use Rattle.replay_window.specs.declared.judged.Judged.TheVariants.{Taken, Old}
use Rattle.replay_window.specs.Numbers.{IsJudged}
use Rattle.replay_window.specs.Parts.{StandsFor}
use Rattle.oscore_message.specs.Finding.{request_of}
use Rattle.oscore_message.specs.Wire.{datagram_of, answer_packet}
use Rattle.pledge_core.specs.Session.{Session}
use Rattle.pledge_core.proofs.Updates.{not_fresh, never_taken, never_old}
use Rattle.pledge_core.proofs.pledge.Pledge.update.Goals as goal

pub returns-in-Taken-clause-taken : goal.returns-in-Taken-clause-taken
returns-in-Taken-clause-taken c = λ r is fresh.
    let W : Option (ℕ × ℕ) → Type 0 = λ w. (numbers : List ℕ) × StandsFor numbers w × IsJudged numbers c.in-Some.found.number Taken in
    absurd (not_fresh c.args.self.now c.args.bytes.now (request_of c.in-Some.found) r Taken never_taken c.in-Some.ensures
    (subst W (ap (λ (s : Session). s.window) c.self.view_is) c.in-Taken.ensures.some) is fresh)

pub returns-in-Old-clause-taken : goal.returns-in-Old-clause-taken
returns-in-Old-clause-taken c = λ r is fresh.
    let W : Option (ℕ × ℕ) → Type 0 = λ w. (numbers : List ℕ) × StandsFor numbers w × IsJudged numbers c.in-Some.found.number Old in
    absurd (not_fresh c.args.self.now c.args.bytes.now (request_of c.in-Some.found) r Old never_old c.in-Some.ensures
    (subst W (ap (λ (s : Session). s.window) c.self.view_is) c.in-Old.ensures.some) is fresh)

pub returns-clause-updated : goal.returns-clause-updated
returns-clause-updated c = λ done.
    let number = c.in-Some.found.number in
    let w = sym (ap (λ (s : Session). s.window) c.self.view_is) in
    let J : Judged → Type 0 = λ j. (numbers : List ℕ) → StandsFor numbers c.self.inside.window → IsJudged numbers number j in
    let each = subst J c.in-Fresh.is c.judge.ensures.each in (
      request_of c.in-Some.found,
      c.in-Some.ensures,
      (λ numbers stands. let S : Option (ℕ × ℕ) → Type 0 = λ x. StandsFor numbers x in each numbers (subst S w stands)),
      record {
        reply = c.reply-reply.result;
        replies = c.reply-reply.ensures;
        out_is = c.protect_answer.ensures ∙ ap (λ (s : Session). datagram_of (answer_packet s.context number (68 ∷ []) c.reply-reply.result)) c.self.view_is;
        others = ap (λ (s : Session). record s { window = c.take.new.self }) c.self.view_is;
        taken = λ numbers stands. let S : Option (ℕ × ℕ) → Type 0 = λ x. StandsFor numbers x in c.take.ensures numbers (subst S w stands);
      },
    )
