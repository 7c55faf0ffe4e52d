use Rattle.std.proofs.Common.{sym, ap, subst, arith}
use Rattle.rekey_core.specs.declared.epochs.Epochs.{Epochs}
use Rattle.rekey_core.specs.Writes.{Has, IsGreatest}
use Rattle.rekey_core.proofs.WriteLemmas.{is_greatest}
use Rattle.rekey_core.proofs.holders.Holders.has.Goals as goal

pub returns : goal.returns
returns c = λ writes stands.
    is_greatest (Has writes c.args.id) c.find.result.has c.args.epoch
    (subst (λ (e : Epochs). IsGreatest (Has writes c.args.id) e.has) (sym c.find.ensures) (stands c.args.id).0)
    c.requires.0
    (omega (arith, ap (λ (e : Epochs). e.has) c.find.ensures, c.requires.1))
