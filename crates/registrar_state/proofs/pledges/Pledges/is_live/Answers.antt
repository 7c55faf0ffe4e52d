use Rattle.std.proofs.Common.{ltb, refl}
use Rattle.std.proofs.lemmas.Bool.{false≢true}
use Rattle.registrar_state.specs.Pledges.{KnowPledges}
use Rattle.registrar_state.proofs.PledgeGrants.{live_by_end, not_live_without}
use Rattle.registrar_state.proofs.pledges.Pledges.is_live.Goals as goal

pub returns-in-Some : goal.returns-in-Some
unfolding KnowPledges
returns-in-Some c = λ h legal know.
    live_by_end h c.args.self.now.holders c.in-Some.last c.args.id c.args.now (ltb c.args.now c.in-Some.last.until) legal know.1
    (c.in-Some.ensures h know) refl

pub returns-in-None : goal.returns-in-None
unfolding KnowPledges
returns-in-None c = λ h legal know. (
  (λ yes. absurd (false≢true yes)),
  (λ live. absurd (not_live_without h c.args.id c.args.now (c.in-None.ensures h know) live)),
)
