use Rattle.std.proofs.Common.{◌↔◌, ◌==◌, IsTrue, ℕ, subst, sym}
use Rattle.join_history.specs.Epochs.{Has}
use Rattle.registrar_state.specs.Pledges.{KnowPledges}
use Rattle.registrar_state.proofs.PledgeEpochs.{has_spread}
use Rattle.registrar_state.proofs.pledges.Pledges.has.Goals as goal

pub returns : goal.returns
unfolding KnowPledges
returns c = λ h legal know spreading.
    subst (λ (n : ℕ). IsTrue (n == c.args.epoch) ↔ Has h c.args.id c.args.epoch) (sym c.epochs.ensures.0)
    (has_spread h c.args.self.now.holders c.args.id c.args.epoch legal know.1 spreading)
