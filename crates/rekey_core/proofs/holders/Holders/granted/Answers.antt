use Rattle.rekey_core.proofs.WriteLemmas.{stands_granted}
use Rattle.rekey_core.proofs.holders.Holders.granted.Goals as goal

pub returns-clause-written : goal.returns-clause-written
returns-clause-written c = λ writes stands.
    stands_granted writes c.args.id c.args.epoch c.args.self.now c.set.new.self c.requires.latest c.set.ensures stands
