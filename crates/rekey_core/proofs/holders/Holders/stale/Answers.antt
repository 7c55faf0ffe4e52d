use Rattle.std.proofs.Common.{subst}
use Rattle.rekey_core.specs.declared.epochs.Epochs.{Epochs}
use Rattle.rekey_core.specs.Held.{Sets}
use Rattle.rekey_core.proofs.WriteLemmas.{stands_stale}
use Rattle.rekey_core.proofs.holders.Holders.stale.Goals as goal

pub returns-clause-written : goal.returns-clause-written
returns-clause-written c = λ writes stands.
    stands_stale writes c.args.id c.args.epoch c.args.self.now c.set.new.self c.requires.latest (subst (λ (e : Epochs). Sets c.args.id (record { has = e.has; stale = c.args.epoch }) c.args.self.now c.set.new.self) c.find-has.ensures c.set.ensures) stands
