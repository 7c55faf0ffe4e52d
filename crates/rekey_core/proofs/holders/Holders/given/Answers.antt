use Rattle.std.proofs.Common.{subst}
use Rattle.rekey_core.specs.declared.epochs.Epochs.{Epochs}
use Rattle.rekey_core.specs.Held.{Sets}
use Rattle.rekey_core.proofs.WriteLemmas.{stands_given}
use Rattle.rekey_core.proofs.holders.Holders.given.Goals as goal

pub returns-clause-written : goal.returns-clause-written
returns-clause-written c = λ writes stands.
    stands_given writes c.args.id c.args.epoch c.args.self.now c.set.new.self c.requires.latest (subst (λ (e : Epochs). Sets c.args.id (record { has = c.args.epoch; stale = e.stale }) c.args.self.now c.set.new.self) c.find-stale.ensures c.set.ensures) stands
