use Rattle.std.proofs.Common.{refl, ap, ◌∙◌}
use Rattle.std.proofs.lemmas.Bool.{both_ways}
use Rattle.join_history.specs.Answers.{link_keys}
use Rattle.registrar_state.proofs.StateLemmas.{IsLegal-stands, known_of}
use Rattle.registrar_state.proofs.UpdateLemmas.{waiting_granted, is_job}
use Rattle.registrar_state.proofs.state.RegState.job_of.Goals as goal

pub returns-in-None : goal.returns-in-None
returns-in-None c = λ h stands spread waits.
    c.in-None.ensures h (known_of c.args.self.now h stands).pledges (waiting_granted h c.args.at c.args.epoch c.args.id waits)

pub returns-then-waits : goal.returns-then-waits
returns-then-waits c = λ h stands spread.
    let known = known_of c.args.self.now h stands in
    let waits = (c.waits.ensures h (IsLegal-stands c.args.self.now h stands) known.pledges spread).0 c.if-waits.true in
    is_job h c.args.at c.args.epoch c.args.id c.in-Some.last _ (c.in-Some.ensures h known.pledges) waits refl refl refl refl
    (c.link_keys.ensures ∙ ap link_keys known.keys)

pub returns-else-waits : goal.returns-else-waits
returns-else-waits c = λ h stands spread waits.
    both_ways c.waits.result c.if-waits.false
    ((c.waits.ensures h (IsLegal-stands c.args.self.now h stands) (known_of c.args.self.now h stands).pledges spread).1 waits)
