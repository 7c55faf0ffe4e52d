use Rattle.std.proofs.Common.{sym, ap, subst, arith}
use Rattle.rekey_core.specs.declared.epochs.Epochs.{Epochs}
use Rattle.rekey_core.specs.Writes.{IsStaleFor, IsGreatest}
use Rattle.rekey_core.proofs.WriteLemmas.{is_greatest}
use Rattle.rekey_core.proofs.holders.Holders.is_stale.Goals as goal

pub returns : goal.returns
returns c = λ writes stands.
    is_greatest (IsStaleFor writes c.args.id) c.find.result.stale c.args.epoch
    (subst (λ (e : Epochs). IsGreatest (IsStaleFor writes c.args.id) e.stale) (sym c.find.ensures) (stands c.args.id).1)
    c.requires.0
    (omega (arith, ap (λ (e : Epochs). e.stale) c.find.ensures, c.requires.2))
